-- Keys of no copy: each is one that a failed Put left.
use Rattle.std.proofs.Common.{◌≡◌, ℕ, ◌+◌, ◌<◌, Bool, true, false, cond, List, [], ◌∷◌, ◌++◌, length, drop, Option, Some, None, refl, sym, ◌∙◌, ap, subst, arith, true≢false, ◌⊎◌, inl, inr}
use Rattle.std.specs.Prelude.{◌==◌, ◌&&◌, ◌||◌, not, is_some, ⊤}
use Rattle.std.specs.List.{list_any}
use Rattle.std.specs.Option.{option_map}
use Rattle.std.proofs.lemmas.List.{drop-append-le, length-append}
use Rattle.std.proofs.lemmas.List.Folds.{list_any-append}
use Rattle.std.proofs.lemmas.Option.{same_Some, slice_get_within}
use Rattle.std.proofs.Math.ListN.{drop_of_length-le}
use Rattle.qfs_base.specs.Key.{key_cmp}
use Rattle.qfs_base.specs.KeyLaws.{key_cmp_total}
use Rattle.qfs_base.specs.KeyMap.{value_at, has_key, with_entry}
use Rattle.qfs_base.specs.KeyMapLaws.{value_at-with_entry}
use Rattle.qfs_base.specs.ListLaws.{slice_get-last, slice_get-more}
use Rattle.qfs_base.specs.Outcome.{chunk_outcome}
use Rattle.qfs_base.specs.declared.chunk.ChunkKey.{ChunkKey}
use Rattle.qfs_base.specs.declared.history.Outcome.TheVariants as Ended
use Rattle.qfs_base.specs.declared.reply.ChunkAnswer.{ChunkAnswer}
use Rattle.qfs_base.specs.declared.reply.ChunkAnswer.TheVariants as Did
use Rattle.qfs_base.specs.declared.reply.ChunkReply.{ChunkReply}
use Rattle.qfs_base.specs.declared.reply.NodeReply.TheVariants as From
use Rattle.qfs_base.specs.declared.request.ChunkRequest.{ChunkRequest}
use Rattle.qfs_base.specs.declared.request.ChunkRequest.TheVariants as Serve
use Rattle.qfs_base.specs.declared.request.NodeRequest.TheVariants as To
use Rattle.qfs_device.specs.Held.{Held, IsProperPrefix, IsTorn, chunk_at, holding, leaving}
use Rattle.qfs_machine.specs.Askable.{IsAskedOfServer}
use Rattle.qfs_model_headline.specs.Nodes.{IsLeftBy, HoldsNoOther, is_wiped, wiped_at}
use Rattle.qfs_model_server.specs.Chunk.{Chunk}
use Rattle.qfs_model_server.specs.Server.{Server, refuse, written}
use Rattle.qfs_model_world.specs.Events.{Event}
use Rattle.qfs_model_world.specs.World.{numbered}
use Rattle.qfs_record.specs.ChunkRecord.{chunk_record}
use Rattle.qfs_store.proofs.KeyLaws.{absent_key, known_there, same_key, same_key-is}
use Rattle.qfs_store.proofs.StandsLaws.{left_at}
use Rattle.qfs_store.specs.Known.{Known, Sizes, refusal, size_of, unless_away}
use Rattle.qfs_store.specs.Serves.{Answers, Does, FetchLeaves, PutLeaves, Serves}
use Rattle.qfs_store.specs.Stored.{Stored, StandsOn}
use Rattle.qfs_store.specs.declared.copies.CopySize.{CopySize}

-- ---- a refusal is no failure, and empties no server

abbrev pub MayRefuse : Option ChunkAnswer → Type 0
MayRefuse None = ⊤
MayRefuse (Some answer) = (chunk_outcome answer ≡ Ended.Done) × (is_wiped answer ≡ false)

refuse-may : (test : Bool) (answer : ChunkAnswer) (other : Option ChunkAnswer) → MayRefuse (Some answer) → MayRefuse other → MayRefuse (refuse test answer other)
refuse-may true answer other may more = may
refuse-may false answer other may more = more

away-may : (known : Known) (now life : ℕ) (other : Option ChunkAnswer) → MayRefuse other → MayRefuse (unless_away known now life other)
unfolding chunk_outcome is_wiped
away-may known now life other more =
    refuse-may (not known.up) Did.Down _ (refl, refl) (refuse-may (not (life == now)) (Did.Lost life now) other (refl, refl) more)

pub may_refuse : (known : Known) (now : ℕ) (request : ChunkRequest) → MayRefuse (refusal known now request)
unfolding chunk_outcome is_wiped
may_refuse known now (Serve.Put key life bytes) = away-may known now life _ (refuse-may _ Did.Held None (refl, refl) tt)
may_refuse known now (Serve.Fetch key life from room) = away-may known now life _ (refuse-may _ Did.Absent None (refl, refl) tt)
may_refuse known now (Serve.Erase key life) = away-may known now life _ (refuse-may _ Did.Absent None (refl, refl) tt)
may_refuse known now Serve.Inventory = refuse-may _ Did.Down None (refl, refl) tt
may_refuse known now Serve.Upgrade = refuse-may _ Did.Down None (refl, refl) tt
may_refuse known now request = tt

-- ---- what was left stays so in one step more

none-before : (a b : Bool) → not a ≡ true → b ≡ false → not (a || (b || false)) ≡ true
none-before true b e f = absurd (true≢false (sym e))
none-before false b e f = rw f refl

abbrev wipes : ℕ → Event → Bool
wipes number event = wiped_at number event.reply event.request

left-longer : (stripe : ℕ) (steps : List Event) (event : Event) (number : ℕ) (key : ChunkKey) (found : List ℕ) → wipes number event ≡ false
    → IsLeftBy stripe steps number key found → IsLeftBy stripe (steps ++ event ∷ []) number key found
left-longer stripe steps event number key found stays left =
    let within : left.i < length steps = slice_get_within steps left.i left.event left.at in
    let behind : list_any (wipes number) (drop (left.i + 1) (steps ++ event ∷ []))
    ≡ (list_any (wipes number) (drop (left.i + 1) steps) || (wipes number event || false)) =
    ap (list_any (wipes number)) (drop-append-le (left.i + 1) steps (event ∷ []) (omega (arith, within)))
    ∙ list_any-append (wipes number) (drop (left.i + 1) steps) (event ∷ []) in
    record {
      i = left.i;
      event = left.event;
      life = left.life;
      bytes = left.bytes;
      server = left.server;
      at = slice_get-more steps (event ∷ []) left.i left.event left.at;
      put = left.put;
      by = left.by;
      failed = left.failed;
      not_wiped =
          ap not behind
          ∙ none-before (list_any (wipes number) (drop (left.i + 1) steps)) (wipes number event) left.not_wiped stays;
      part = left.part;
    }

left-now : (stripe : ℕ) (steps : List Event) (event : Event) (number : ℕ) (key : ChunkKey) (life : ℕ) (bytes found : List ℕ) (server : Server)
    → event.request ≡ To.Chunk number (Serve.Put key life bytes) → numbered event.before.servers number ≡ Some server → event.outcome ≡ Ended.Failed
    → IsProperPrefix found (chunk_record stripe key (written server bytes)) → IsLeftBy stripe (steps ++ event ∷ []) number key found
left-now stripe steps event number key life bytes found server put by failed part =
    let long : length (steps ++ event ∷ []) ≡ length steps + 1 = length-append steps (event ∷ []) in
    let none : drop (length steps + 1) (steps ++ event ∷ []) ≡ [] =
    drop_of_length-le (steps ++ event ∷ []) (omega (arith, long)) in
    record {
      i = length steps;
      event = event;
      life = life;
      bytes = bytes;
      server = server;
      at = slice_get-last steps event;
      put = put;
      by = by;
      failed = failed;
      not_wiped = ap (λ rest. not (list_any (wipes number) rest)) none;
      part = part;
    }

pub no_other-longer : (stripe : ℕ) (steps : List Event) (event : Event) (number : ℕ) (held : Held) (server : Server) → wipes number event ≡ false
    → HoldsNoOther stripe steps number held server → HoldsNoOther stripe (steps ++ event ∷ []) number held server
no_other-longer stripe steps event number held server stays none key found absent there =
    left-longer stripe steps event number key found stays (none key found absent there)

-- ---- how it came to stand under a key of no copy

-- it stood there before this step, which emptied nothing
record StoodThere (copies : Sizes) (held : Held) (answer : ChunkAnswer) (key : ChunkKey) (found : List ℕ) : Type 0 where
  pub absent : has_key key_cmp copies key ≡ false
  pub there : chunk_at held key ≡ Some found
  pub kept : is_wiped answer ≡ false

-- this step is a Put of the key that failed
record WasLeft (stripe form : ℕ) (request : ChunkRequest) (answer : ChunkAnswer) (key : ChunkKey) (found : List ℕ) : Type 0 where
  pub life : ℕ
  pub bytes : List ℕ
  pub put : request ≡ Serve.Put key life bytes
  pub failed : chunk_outcome answer ≡ Ended.Failed
  pub part : IsProperPrefix found (chunk_record stripe key (record { form = form; bytes = bytes }))

-- another key than the one that was set
not-set : {X : Type 0} (b : Bool) (value : X) (found : Option X) → is_some (cond b (Some value) found) ≡ false → (b ≡ false) × (is_some found ≡ false)
not-set true value found absent = absurd (true≢false absent)
not-set false value found absent = (refl, absent)

-- a key of no copy behind a step, under which this was found
module _ (before after : Stored) (held held' : Held) (was : before.told ≡ Some held) (now : after.told ≡ Some held') (q : ChunkKey) (found : List ℕ)
    (absent : has_key key_cmp after.known.copies q ≡ false) (there : chunk_at held' q ≡ Some found) where
  abbrev CameSo : ChunkRequest → ChunkAnswer → Type 0
  CameSo request answer =
      StoodThere before.known.copies held answer q found ⊎ WasLeft before.stripe before.known.form request answer q found

  -- what the device tells
  changed : (change : Held → Held) → after.told ≡ option_map change before.told → held' ≡ change held
  changed change is = sym (same_Some (change held) held' (ap (option_map change) (sym was) ∙ sym is ∙ now))

  same : after.told ≡ before.told → chunk_at held' q ≡ chunk_at held q
  same is = ap (λ (h : Held). chunk_at h q) (sym (same_Some held held' (sym was ∙ sym is ∙ now)))

  -- nothing changed for this key
  idle : (request : ChunkRequest) (answer : ChunkAnswer) → is_wiped answer ≡ false → after.known.copies ≡ before.known.copies
      → chunk_at held' q ≡ chunk_at held q → CameSo request answer
  idle request answer kept sizes under = inl (record {
    absent = ap (λ (s : Sizes). has_key key_cmp s q) (sym sizes) ∙ absent;
    there = sym under ∙ there;
    kept = kept;
  })

  module _ (key : ChunkKey) (life : ℕ) (bytes : List ℕ) where
    abbrev copy : Chunk
    copy = record { form = before.known.form; bytes = bytes }

    abbrev spelled : List ℕ
    spelled = chunk_record before.stripe key copy

    came-stored : after.known.copies ≡ with_entry key_cmp before.known.copies key (size_of copy) → held' ≡ holding key spelled held
        → CameSo (Serve.Put key life bytes) Did.Stored
    unfolding is_wiped
    came-stored sizes is =
        let apart = not-set (same_key q key) (size_of copy) (value_at key_cmp before.known.copies q)
        (ap is_some (sym (value_at-with_entry key_cmp_total before.known.copies key (size_of copy) q))
        ∙ ap (λ (s : Sizes). has_key key_cmp s q) (sym sizes) ∙ absent) in
        inl (record {
          absent = apart.1;
          there =
              ap (λ b. cond b (Some spelled) (chunk_at held q)) (sym apart.0)
              ∙ sym (value_at-with_entry key_cmp_total held.contents key spelled q)
              ∙ ap (λ (h : Held). chunk_at h q) (sym is) ∙ there;
          kept = refl;
        })

    torn-at : (left : Option (List ℕ)) → IsTorn spelled left → left ≡ Some found → key ≡ q
        → WasLeft before.stripe before.known.form (Serve.Put key life bytes) Did.Fault q found
    unfolding chunk_outcome
    torn-at None torn is of = absurd (cc)
    torn-at (Some part) torn is of =
        let is_found : part ≡ found = cc in
        record {
          life = life;
          bytes = bytes;
          put = ap (λ k. Serve.Put k life bytes) of;
          failed = refl;
          part = subst (λ k. IsProperPrefix found (chunk_record before.stripe k copy)) of
              (subst (λ p. IsProperPrefix p spelled) is_found torn);
        }

    came-torn : (left : Option (List ℕ)) → IsTorn spelled left → held' ≡ leaving key left held
        → after.known.copies ≡ before.known.copies → (b : Bool) → same_key q key ≡ b → CameSo (Serve.Put key life bytes) Did.Fault
    unfolding is_wiped
    came-torn left torn is sizes true at =
        inr (torn-at left torn
        (ap (λ b. cond b left (chunk_at held q)) (sym at) ∙ sym (left_at held key left q) ∙ ap (λ (h : Held). chunk_at h q) (sym is) ∙ there)
        (same_key-is q key at))
    came-torn left torn is sizes false at =
        idle _ _ refl sizes (ap (λ (h : Held). chunk_at h q) is ∙ left_at held key left q ∙ ap (λ b. cond b left (chunk_at held q)) at)

    came-put : (answer : ChunkAnswer)
        → PutLeaves key (size_of copy) spelled answer before.known.copies after.known.copies before.told after.told
        → CameSo (Serve.Put key life bytes) answer
    unfolding is_wiped
    came-put Did.Stored leaves = came-stored leaves.0 (changed _ leaves.1)
    came-put Did.Fault leaves = came-torn leaves.1.0 leaves.1.1 (changed _ leaves.1.2) leaves.0 (same_key q key) refl
    came-put Did.NoMemory leaves = idle _ _ refl leaves.0 (same leaves.1)
    came-put answer leaves = absurd leaves

  came-fetch : (request : ChunkRequest) (key : ChunkKey) (size : CopySize) (from count : ℕ) (room : List ℕ) (answer : ChunkAnswer)
      → FetchLeaves key size from count answer room before.told after.told → after.known.copies ≡ before.known.copies → CameSo request answer
  unfolding is_wiped
  came-fetch request key size from count room Did.Fetched leaves sizes =
      idle _ _ refl sizes (ap (λ (h : Held). chunk_at h q) (changed _ leaves.0))
  came-fetch request key size from count room Did.Fault leaves sizes = idle _ _ refl sizes (same leaves.0)
  came-fetch request key size from count room answer leaves sizes = absurd leaves

  -- a request that was carried out, and one that was refused
  came-done : (request : ChunkRequest) (reply : ChunkReply) → IsAskedOfServer request → Does request reply before after → CameSo request reply.answer
  came-done (Serve.Put key life bytes) reply asked does = came-put key life bytes reply.answer does.3
  came-done (Serve.Fetch key life from room) reply asked does =
      came-fetch _ key does.1.0 from (length room) reply.room reply.answer does.1.2 (ap (λ (k : Known). k.copies) does.0)
  came-done request reply asked does = absurd asked

  came-by : (request : ChunkRequest) (reply : ChunkReply) → IsAskedOfServer request → (due : Option ChunkAnswer) → MayRefuse due
      → Answers request reply before after due → CameSo request reply.answer
  came-by request reply asked (Some answer) may answers =
      idle request reply.answer (ap (λ (r : ChunkReply). is_wiped r.answer) answers.0 ∙ may.1)
      (ap (λ (s : Stored). s.known.copies) answers.1) (same (ap (λ (s : Stored). s.told) answers.1))
  came-by request reply asked None may answers = came-done request reply asked answers.does

-- ---- a step of the server

and-none : (a b : Bool) → b ≡ false → (a && b) ≡ false
and-none true b e = e
and-none false b e = refl

wiped-there : (number : ℕ) (event : Event) (server : ℕ) (request : ChunkRequest) (answer : ChunkReply)
    → event.request ≡ To.Chunk server request → event.reply ≡ From.Chunk answer
    → wipes number event ≡ ((server == number) && is_wiped answer.answer)
unfolding wiped_at
wiped-there number event server request answer asked told =
    ap (λ r. wiped_at number r event.request) told ∙ ap (wiped_at number (From.Chunk answer)) asked

pub no_other-after : (stripe : ℕ) (steps : List Event) (event : Event) (number : ℕ) (request : ChunkRequest) (answer : ChunkReply) (server server' : Server)
    (before after : Stored) (held held' : Held)
    → IsAskedOfServer request → event.request ≡ To.Chunk number request → event.outcome ≡ chunk_outcome answer.answer
    → event.reply ≡ From.Chunk answer → numbered event.before.servers number ≡ Some server
    → before.stripe ≡ stripe → before.told ≡ Some held → after.told ≡ Some held'
    → StandsOn stripe held before.known server → StandsOn stripe held' after.known server'
    → Serves request answer before after
    → HoldsNoOther stripe steps number held server → HoldsNoOther stripe (steps ++ event ∷ []) number held' server'
no_other-after stripe steps event number request answer server server' before after held held' askable asked ended told by of was now stands stands' serves none key found absent there =
    let came = came-by before after held held' was now key found
    (known_there after.known.copies server'.copies key stands'.copies ∙ ap is_some absent) there
    request answer askable _ (may_refuse before.known serves.now request) serves.answers in
    elim came [
      | inl stood ↦
          left-longer stripe steps event number key found
          (wiped-there number event number request answer asked told ∙ and-none (number == number) (is_wiped answer.answer) stood.kept)
          (none key found
          (absent_key server.copies key (sym (known_there before.known.copies server.copies key stands.copies) ∙ stood.absent)) stood.there)
      | inr left ↦
          left-now stripe steps event number key left.life left.bytes found server (asked ∙ ap (To.Chunk number) left.put) by (ended ∙ left.failed)
          (subst (λ f. IsProperPrefix found (chunk_record f key (written server left.bytes))) of
          (subst (λ f. IsProperPrefix found (chunk_record before.stripe key (record { form = f; bytes = left.bytes }))) stands.form left.part))
    ]
