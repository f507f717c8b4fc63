-- The chunk servers of a world by number: what a Put or a Fetch leaves on each of them. Cited by
-- the steps of puts and gets.
use Rattle.std.proofs.Common.{◌≡◌, ℕ, ◌+◌, ◌≤◌, ◌==◌, nat_le, Bool, true, false, cond, List, []}
use Rattle.std.proofs.Common.{length, take, drop, replicate, Option, Some, None, refl, sym, ap}
use Rattle.std.proofs.Common.{subst, ◌∙◌, arith}
use Rattle.std.proofs.Math.Seq.{take-length}
use Rattle.std.proofs.lemmas.List.{length-replicate}
use Rattle.std.proofs.lemmas.Bool.{eqb-true, false_from_ne_true}
use Rattle.std.proofs.lemmas.Bool.Decides.{nat_tests}
use Rattle.std.specs.Cmp.{tied_itself, Equal-is}
use Rattle.std.specs.Ordering.{is_eq}
use Rattle.std.specs.Option.{option_and_then}
use Rattle.qfs_base.specs.Key.{key_cmp}
use Rattle.qfs_base.specs.KeyLaws.{key_cmp_total, key_cmp-Equal}
use Rattle.qfs_base.specs.KeyMap.{value_at, with_entry}
use Rattle.qfs_base.specs.KeyMapLaws.{value_at-with_entry}
use Rattle.qfs_base.specs.declared.chunk.ChunkKey.{ChunkKey}
use Rattle.qfs_base.specs.declared.history.Outcome.TheVariants as Ended
use Rattle.qfs_base.specs.declared.reply.ChunkAnswer.TheVariants as Answer
use Rattle.qfs_base.specs.declared.request.ChunkRequest.TheVariants as Serve
use Rattle.qfs_model_server.specs.Chunk.{Chunk}
use Rattle.qfs_model_server.specs.Server.{Server, bytes_in, has_range, unless_away, chunk_refusal}
use Rattle.qfs_model_server.specs.Server.{chunk_served, chunk_attempted, chunk_decided, server_step}
use Rattle.qfs_model_world.specs.World.{numbered, renumbered}
use Rattle.qfs_model_world.proofs.OneStep.{set-there, set-elsewhere}

-- ---- servers

-- a server of this number is up in its first life, and writes chunk records in their first form
pub record IsUp (servers : List Server) (number : ℕ) : Type 0 where
  pub server : Server
  pub there : numbered servers number ≡ Some server
  pub up : server.up ≡ true
  pub life : server.life ≡ 1
  pub form : server.form ≡ 1

-- so are all of so many
abbrev pub AreUp : ℕ → List Server → Type 0
AreUp n servers = (number : ℕ) → 1 ≤ number → number ≤ n → IsUp servers number

-- a copy in the first form, and what a server stores under a key
abbrev pub first_chunk : List ℕ → Chunk
first_chunk bytes = record { form = 1; bytes = bytes }

abbrev pub stored_at : List Server → ℕ → ChunkKey → Option Chunk
stored_at servers number key =
    option_and_then (λ (server : Server). value_at key_cmp server.copies key)
    (numbered servers number)

module _ (servers : List Server) (number : ℕ) (u : IsUp servers number) (changed : Server)
    (up : changed.up ≡ true) (life : changed.life ≡ 1) (form : changed.form ≡ 1) where
  up-one : (other : ℕ) (b : Bool) → (number == other) ≡ b → IsUp servers other
      → IsUp (renumbered servers number changed) other
  up-one other true is before =
      let same : number ≡ other = eqb-true number other is in
      subst (IsUp (renumbered servers number changed)) same
      (record {
        server = changed;
        there = set-there servers number u.server changed u.there;
        up =
            up;
        life = life;
        form = form;
      })
  up-one other false is before =
      record {
        server = before.server;
        there = set-elsewhere servers number other changed
            (λ same. let own : (number == other) ≡ true = grind (arith, nat_tests) in absurd (cc))
            ∙ before.there;
        up = before.up;
        life = before.life;
        form = before.form;
      }

  pub are_up-changed : (n : ℕ) → AreUp n servers → AreUp n (renumbered servers number changed)
  are_up-changed n before other first last =
      up-one other (number == other) refl (before other first last)

-- a server whose copies stay stores what it stored
stays-one : (servers : List Server) (number other : ℕ) (server changed : Server) (key : ChunkKey)
    (b : Bool) → (number == other) ≡ b
    → numbered servers number ≡ Some server
    → value_at key_cmp changed.copies key ≡ value_at key_cmp server.copies key
    → stored_at (renumbered servers number changed) other key ≡ stored_at servers other key
stays-one servers number other server changed key true is there same =
    let own : number ≡ other = eqb-true number other is in
    subst (λ other. stored_at (renumbered servers number changed) other key
    ≡ stored_at servers other key) own
    (ap (option_and_then (λ (server : Server). value_at key_cmp server.copies key))
    (set-there servers number server changed there)
    ∙ same
    ∙ sym (ap (option_and_then (λ (server : Server). value_at key_cmp server.copies key)) there))
stays-one servers number other server changed key false is there same =
    ap (option_and_then (λ (server : Server). value_at key_cmp server.copies key))
    (set-elsewhere servers number other changed (λ same. let own : (number == other) ≡ true =
    grind (arith, nat_tests) in absurd (cc)))

pub stored-same : (servers : List Server) (number other : ℕ) (server changed : Server)
    (key : ChunkKey)
    → numbered servers number ≡ Some server
    → value_at key_cmp changed.copies key ≡ value_at key_cmp server.copies key
    → stored_at (renumbered servers number changed) other key ≡ stored_at servers other key
stored-same servers number other server changed key there same =
    stays-one servers number other server changed key (number == other) refl there same

-- ---- a Put

-- the server with one more copy
abbrev pub with_copy : Server → ChunkKey → List ℕ → Server
with_copy server key bytes =
    record server { copies = with_entry key_cmp server.copies key (first_chunk bytes) }

pub stored-own : (servers : List Server) (number : ℕ) (server : Server) (key : ChunkKey)
    (bytes : List ℕ) → numbered servers number ≡ Some server
    → stored_at (renumbered servers number (with_copy server key bytes)) number key
    ≡ Some (first_chunk bytes)
stored-own servers number server key bytes there =
    ap (option_and_then (λ (server : Server). value_at key_cmp server.copies key))
    (set-there servers number server (with_copy server key bytes) there)
    ∙ value_at-with_entry key_cmp_total server.copies key (first_chunk bytes) key
    ∙ ap (λ o. cond (is_eq o) (Some (first_chunk bytes)) (value_at key_cmp server.copies key))
    (tied_itself key_cmp_total key)

pub stored-other : (servers : List Server) (number other : ℕ) (server : Server) (key at : ChunkKey)
    (bytes : List ℕ) → numbered servers number ≡ Some server
    → (at ≡ key → ⊥) → stored_at (renumbered servers number (with_copy server key bytes)) other at
    ≡ stored_at servers other at
stored-other servers number other server key at bytes there differ =
    stored-same servers number other server (with_copy server key bytes) at there
    (value_at-with_entry key_cmp_total server.copies key (first_chunk bytes) at
    ∙ ap (λ b. cond b (Some (first_chunk bytes)) (value_at key_cmp server.copies at))
    (false_from_ne_true _ (λ is. differ (key_cmp-Equal at key ((Equal-is _).0 is)))))

-- what is stored on a server is what it has
pub stored-here : (servers : List Server) (number : ℕ) (server : Server) (key : ChunkKey)
    (found : Option Chunk)
    → numbered servers number ≡ Some server → stored_at servers number key ≡ found
    → value_at key_cmp server.copies key ≡ found
stored-here servers number server key found there stored =
    sym (ap (option_and_then (λ (s : Server). value_at key_cmp s.copies key)) there) ∙ stored

module _ (servers : List Server) (number : ℕ) (u : IsUp servers number) (key : ChunkKey)
    (bytes : List ℕ) where
  -- a server that is up stores a copy under a key that it doesn't have
  pub put-stores : value_at key_cmp u.server.copies key ≡ None
      → server_step (Serve.Put key 1 bytes) Ended.Done u.server
      ≡ record {
        server = with_copy u.server key bytes;
        reply =
            record { answer = Answer.Stored; room = [] };
      }
  unfolding server_step chunk_refusal unless_away chunk_decided chunk_attempted chunk_served
  put-stores none = rw (u.up, u.life, u.form, none) refl

  -- and hands out the whole copy that it has
  pub fetch-hands : (len : ℕ) → stored_at servers number key ≡ Some (first_chunk bytes)
      → length bytes ≡ len
      → server_step (Serve.Fetch key 1 0 (replicate len 0)) Ended.Done u.server
      ≡ record {
        server = record u.server
            { handed_out = u.server.handed_out + length {A = ℕ} (replicate len 0) };
        reply =
            record { answer = Answer.Fetched; room = bytes };
      }
  unfolding server_step chunk_refusal unless_away chunk_decided chunk_attempted chunk_served
      has_range
  fetch-hands len stored long =
      let has : value_at key_cmp u.server.copies key ≡ Some (first_chunk bytes) =
      stored-here servers number u.server key _ u.there stored in
      let room : length {A = ℕ} (replicate len 0) ≡ len = length-replicate len 0 in
      let within : nat_le (0 + length {A = ℕ} (replicate len 0)) (length bytes) ≡ true =
      grind (arith, nat_tests) in
      let all : take (length {A = ℕ} (replicate len 0)) bytes ≡ bytes =
      rw (room, ← long) (take-length bytes) in
      let request = Serve.Fetch key 1 0 (replicate len 0) in
      let due : chunk_refusal u.server request ≡ None = rw (u.up, u.life, has, within) refl in
      ap (chunk_decided u.server request Ended.Done) due
      ∙ ap (λ room. record {
        server = record u.server
            { handed_out = u.server.handed_out + length {A = ℕ} (replicate len 0) };
        reply =
            record { answer = Answer.Fetched; room = room };
      })
      (ap (λ found. take (length {A = ℕ} (replicate len 0)) (drop 0 (bytes_in found))) has ∙ all)
