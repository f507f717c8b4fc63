-- The spellings of requests: each is read back, and what is read was written so.
use Rattle.std.proofs.Common.{◌≡◌, ◌∙◌, refl, sym, ap, subst, arith, ℕ, zero, suc, ◌+◌, ◌<◌, ◌≤◌, inl, inr, List, [], ◌∷◌, ◌++◌, Some, None, slice_get}
use Rattle.std.specs.Prelude.{⊤, ◌⊎◌}
use Rattle.std.proofs.lemmas.Option.{slice_get_past}
use Rattle.std.specs.Option.{option_map}
use Rattle.std.specs.Int.{w32, w64}
use Rattle.std.proofs.lemmas.List.Elements.{All-tail}
use Rattle.qfs_base.specs.declared.request.MetaRequest.{MetaRequest}
use Rattle.qfs_base.specs.declared.request.MetaRequest.TheVariants as Ask
use Rattle.qfs_model_disks.specs.LogRecord.{IsSpelledRequest, Reads, creating, fields_at, granting, greeting, moving, numbered_reader, paths, readers, reads, reads_none, recovering, request, request_at, request_text, settling}
use Rattle.qfs_model_disks.specs.Values.{from_one, path, slot_id}
use Rattle.qfs_record.specs.Part.{AreBytes, Part, number, optional, pair}
use Rattle.qfs_record.proofs.ChunkLaws.{block-is_part, key-is_part, slot-is_part}
use Rattle.qfs_record.proofs.PartLaws.{IsPart, Takes, flag-is_part, listed-is_part, map_some, number16, number32, number64, optional-is_part, pair-is_part}
use Rattle.qfs_spelling.proofs.PathLaws.{path-is_part}
use Rattle.qfs_spelling.proofs.ValueLaws.{file_length-is_part, from_one-is_part, slot_id-is_part}

-- ---- the fields

paths-is_part : IsPart paths
paths-is_part = pair-is_part _ _ path-is_part path-is_part

creating-is_part : IsPart creating
creating-is_part = pair-is_part _ _ path-is_part (pair-is_part _ _ number16 file_length-is_part)

granting-is_part : IsPart granting
granting-is_part = pair-is_part _ _ block-is_part (pair-is_part _ _ slot-is_part flag-is_part)

recovering-is_part : IsPart recovering
recovering-is_part = pair-is_part _ _ path-is_part (pair-is_part _ _ number32 slot-is_part)

moving-is_part : IsPart moving
moving-is_part =
    pair-is_part _ _ path-is_part
    (pair-is_part _ _ number32 (pair-is_part _ _ slot-is_part from_one-is_part))

settling-is_part : IsPart settling
settling-is_part =
    pair-is_part _ _ block-is_part
    (pair-is_part _ _ slot-is_part (pair-is_part _ _ number32 number64))

greeting-is_part : IsPart greeting
greeting-is_part =
    pair-is_part _ _ from_one-is_part
    (pair-is_part _ _ number32 (listed-is_part _ key-is_part))

after-is_part : IsPart (optional slot_id)
after-is_part = optional-is_part _ slot_id-is_part

evacuating-is_part : IsPart (pair from_one (optional slot_id))
evacuating-is_part = pair-is_part _ _ from_one-is_part after-is_part

sleeping-is_part : IsPart (pair from_one (number w32))
sleeping-is_part = pair-is_part _ _ from_one-is_part number32

-- ---- what was written is read again

again_by : {A : Type 0} (part : Part A) → IsPart part → (make : A → MetaRequest) (value : A) (rest : List ℕ) → part.Fits value
    → reads part make (part.text value ++ rest) ≡ Some (make value, rest)
again_by {A} part is make value rest fits =
    ap (option_map (λ (front : A × List ℕ). (make front.0, front.1))) (is.again value rest fits)

request_again : (asked : MetaRequest) (rest : List ℕ) → IsSpelledRequest asked → request_at (request_text asked ++ rest) ≡ Some (asked, rest)
unfolding request_at numbered_reader fields_at request_text
request_again (Ask.Mkdir p) rest fits = again_by path path-is_part (λ p. Ask.Mkdir p) p rest fits
request_again (Ask.Rmdir p) rest fits = again_by path path-is_part (λ p. Ask.Rmdir p) p rest fits
request_again (Ask.Remove p) rest fits = again_by path path-is_part (λ p. Ask.Remove p) p rest fits
request_again (Ask.Rename from to) rest fits = again_by paths paths-is_part (λ v. Ask.Rename v.0 v.1) (from, to) rest fits
request_again (Ask.Create p command len) rest fits =
    again_by creating creating-is_part (λ v. Ask.Create v.0 v.1.0 v.1.1) (p, (command, len)) rest fits
request_again (Ask.Grant file index s again) rest fits =
    again_by granting granting-is_part (λ v. Ask.Grant v.0.file v.0.index v.1.0 v.1.1) (record { file = file; index = index }, (s, again)) rest fits
request_again (Ask.Close file) rest fits = again_by (number w32) number32 (λ file. Ask.Close file) file rest fits
request_again (Ask.Abort file) rest fits = again_by (number w32) number32 (λ file. Ask.Abort file) file rest fits
request_again (Ask.OpenFile p) rest fits = again_by path path-is_part (λ p. Ask.OpenFile p) p rest fits
request_again (Ask.Release lease) rest fits = again_by (number w64) number64 (λ lease. Ask.Release lease) lease rest fits
request_again (Ask.RecoverAt p index s) rest fits =
    again_by recovering recovering-is_part (λ v. Ask.RecoverAt v.0 v.1.0 v.1.1) (p, (index, s)) rest fits
request_again (Ask.HealNext after) rest fits = again_by (optional slot_id) after-is_part (λ after. Ask.HealNext after) after rest fits
request_again (Ask.MoveAt p index s to) rest fits =
    again_by moving moving-is_part (λ v. Ask.MoveAt v.0 v.1.0 v.1.1.0 v.1.1.1) (p, (index, (s, to))) rest fits
request_again (Ask.EvacNext server after) rest fits =
    again_by (pair from_one (optional slot_id)) evacuating-is_part (λ v. Ask.EvacNext v.0 v.1) (server, after) rest fits
request_again Ask.BalanceNext rest fits = refl
request_again (Ask.Confirm b s version lease) rest fits =
    again_by settling settling-is_part (λ v. Ask.Confirm v.0 v.1.0 v.1.1.0 v.1.1.1) (b, (s, (version, lease))) rest fits
request_again (Ask.Abandon b s version lease) rest fits =
    again_by settling settling-is_part (λ v. Ask.Abandon v.0 v.1.0 v.1.1.0 v.1.1.1) (b, (s, (version, lease))) rest fits
request_again (Ask.OrderNext after) rest fits = again_by (number w64) number64 (λ after. Ask.OrderNext after) after rest fits
request_again (Ask.Swept condemned) rest fits = again_by (number w64) number64 (λ condemned. Ask.Swept condemned) condemned rest fits
request_again (Ask.Hello server life keys) rest fits =
    again_by greeting greeting-is_part (λ v. Ask.Hello v.0 v.1.0 v.1.1) (server, (life, keys)) rest fits
request_again (Ask.Bye server) rest fits = again_by from_one from_one-is_part (λ server. Ask.Bye server) server rest fits
request_again (Ask.Leave server) rest fits = again_by from_one from_one-is_part (λ server. Ask.Leave server) server rest fits
request_again (Ask.Hibernate server ticks) rest fits =
    again_by (pair from_one (number w32)) sleeping-is_part (λ v. Ask.Hibernate v.0 v.1) (server, ticks) rest fits
request_again Ask.Tick rest fits = refl
request_again (Ask.Drop actor) rest fits = again_by from_one from_one-is_part (λ actor. Ask.Drop actor) actor rest fits
request_again (Ask.List p) rest fits = absurd fits
request_again (Ask.LeftOn server) rest fits = absurd fits
request_again Ask.Checkpoint rest fits = absurd fits
request_again Ask.Restart rest fits = absurd fits

-- ---- what is read was written so

-- a reader of fields tells the request of its number that stands there
abbrev Tells : ℕ → Reads → Type 0
Tells kind read = (bytes : List ℕ) (asked : MetaRequest) (rest : List ℕ) → AreBytes bytes → read bytes ≡ Some (asked, rest) → Takes request (kind ∷ bytes) asked rest

spelled_by : {A : Type 0} (part : Part A) → IsPart part → (make : A → MetaRequest) (kind : ℕ)
    → ((value : A) → request_text (make value) ≡ kind ∷ part.text value) → ((value : A) → part.Fits value → IsSpelledRequest (make value))
    → Tells kind (reads part make)
spelled_by {A} part is make kind text fits bytes asked rest are read =
    let f = map_some (part.read bytes) (λ (front : A × List ℕ). (make front.0, front.1)) (asked, rest) read in
    let front = f.0 in
    let p = is.spelled bytes front.0 front.1 are f.1 in
    let takes : Takes request (kind ∷ bytes) (make front.0) front.1 = record {
      fits = fits front.0 p.fits;
      parts = ap (λ (t : List ℕ). kind ∷ t) p.parts ∙ ap (λ (t : List ℕ). t ++ front.1) (sym (text front.0));
      rest_fits = p.rest_fits;
    } in
    subst (λ (r : MetaRequest × List ℕ). Takes request (kind ∷ bytes) r.0 r.1) f.2 takes

spelled_alone : (asked : MetaRequest) (kind : ℕ) → request_text asked ≡ kind ∷ [] → IsSpelledRequest asked → Tells kind (reads_none asked)
spelled_alone asked kind text fits bytes found rest are read =
    let takes : Takes request (kind ∷ bytes) asked bytes = record {
      fits = fits;
      parts = ap (λ (t : List ℕ). t ++ bytes) (sym text);
      rest_fits = are;
    } in
    let same : (asked, bytes) ≡ (found, rest) = cc in
    subst (λ (r : MetaRequest × List ℕ). Takes request (kind ∷ bytes) r.0 r.1) same takes

-- the readers of a list tell the requests from this number on
abbrev TellEach : ℕ → List Reads → Type 0
TellEach kind [] = ⊤
TellEach kind (read ∷ more) = Tells kind read × TellEach (suc kind) more

readers_tell : TellEach 1 readers
unfolding request_text
readers_tell = (
  spelled_by path path-is_part (λ p. Ask.Mkdir p) 1 (λ _. refl) (λ _ fits. fits),
  (
    spelled_by path path-is_part (λ p. Ask.Rmdir p) 2 (λ _. refl) (λ _ fits. fits),
    (
      spelled_by path path-is_part (λ p. Ask.Remove p) 3 (λ _. refl) (λ _ fits. fits),
      (
        spelled_by paths paths-is_part (λ v. Ask.Rename v.0 v.1) 4 (λ _. refl) (λ _ fits. fits),
        (
          spelled_by creating creating-is_part (λ v. Ask.Create v.0 v.1.0 v.1.1) 5 (λ _. refl) (λ _ fits. fits),
          (
            spelled_by granting granting-is_part (λ v. Ask.Grant v.0.file v.0.index v.1.0 v.1.1) 6 (λ _. refl) (λ _ fits. fits),
            (
              spelled_by (number w32) number32 (λ file. Ask.Close file) 7 (λ _. refl) (λ _ fits. fits),
              (
                spelled_by (number w32) number32 (λ file. Ask.Abort file) 8 (λ _. refl) (λ _ fits. fits),
                (
                  spelled_by path path-is_part (λ p. Ask.OpenFile p) 9 (λ _. refl) (λ _ fits. fits),
                  (
                    spelled_by (number w64) number64 (λ lease. Ask.Release lease) 10 (λ _. refl) (λ _ fits. fits),
                    (
                      spelled_by recovering recovering-is_part (λ v. Ask.RecoverAt v.0 v.1.0 v.1.1) 11 (λ _. refl) (λ _ fits. fits),
                      (
                        spelled_by (optional slot_id) after-is_part (λ after. Ask.HealNext after) 12 (λ _. refl) (λ _ fits. fits),
                        (
                          spelled_by moving moving-is_part (λ v. Ask.MoveAt v.0 v.1.0 v.1.1.0 v.1.1.1) 13 (λ _. refl) (λ _ fits. fits),
                          (
                            spelled_by (pair from_one (optional slot_id)) evacuating-is_part (λ v. Ask.EvacNext v.0 v.1) 14 (λ _. refl) (λ _ fits. fits),
                            (
                              spelled_alone Ask.BalanceNext 15 refl tt,
                              (
                                spelled_by settling settling-is_part (λ v. Ask.Confirm v.0 v.1.0 v.1.1.0 v.1.1.1) 16 (λ _. refl) (λ _ fits. fits),
                                (
                                  spelled_by settling settling-is_part (λ v. Ask.Abandon v.0 v.1.0 v.1.1.0 v.1.1.1) 17 (λ _. refl) (λ _ fits. fits),
                                  (
                                    spelled_by (number w64) number64 (λ after. Ask.OrderNext after) 18 (λ _. refl) (λ _ fits. fits),
                                    (
                                      spelled_by (number w64) number64 (λ condemned. Ask.Swept condemned) 19 (λ _. refl) (λ _ fits. fits),
                                      (
                                        spelled_by greeting greeting-is_part (λ v. Ask.Hello v.0 v.1.0 v.1.1) 20 (λ _. refl) (λ _ fits. fits),
                                        (
                                          spelled_by from_one from_one-is_part (λ server. Ask.Bye server) 21 (λ _. refl) (λ _ fits. fits),
                                          (
                                            spelled_by from_one from_one-is_part (λ server. Ask.Leave server) 22 (λ _. refl) (λ _ fits. fits),
                                            (
                                              spelled_by (pair from_one (number w32)) sleeping-is_part (λ v. Ask.Hibernate v.0 v.1) 23 (λ _. refl) (λ _ fits. fits),
                                              (
                                                spelled_alone Ask.Tick 24 refl tt,
                                                (
                                                  spelled_by from_one from_one-is_part (λ actor. Ask.Drop actor) 25 (λ _. refl) (λ _ fits. fits),
                                                  tt,
                                                ),
                                              ),
                                            ),
                                          ),
                                        ),
                                      ),
                                    ),
                                  ),
                                ),
                              ),
                            ),
                          ),
                        ),
                      ),
                    ),
                  ),
                ),
              ),
            ),
          ),
        ),
      ),
    ),
  ),
)

each_tells : (kind : ℕ) (reads : List Reads) → TellEach kind reads → (n number : ℕ) → number ≡ kind + n
    → (bytes : List ℕ) (asked : MetaRequest) (rest : List ℕ) → AreBytes bytes
    → fields_at (slice_get reads n) bytes ≡ Some (asked, rest) → Takes request (number ∷ bytes) asked rest
unfolding fields_at
each_tells kind [] tell n number is bytes asked rest are read = absurd cc
each_tells kind (first ∷ more) tell zero number is bytes asked rest are read =
    let same : kind ≡ number = omega arith in
    subst (λ (k : ℕ). Takes request (k ∷ bytes) asked rest) same (tell.0 bytes asked rest are read)
each_tells kind (first ∷ more) tell (suc n) number is bytes asked rest are read =
    each_tells (suc kind) more tell.1 n number (omega arith) bytes asked rest are read

request_spelled : (bytes : List ℕ) (asked : MetaRequest) (rest : List ℕ) → AreBytes bytes → request_at bytes ≡ Some (asked, rest) → Takes request bytes asked rest
unfolding request_at numbered_reader fields_at
request_spelled [] asked rest are read = absurd cc
request_spelled (zero ∷ bytes) asked rest are read = absurd cc
request_spelled (suc n ∷ bytes) asked rest are read =
    each_tells 1 readers readers_tell n (suc n) (omega arith) bytes asked rest (All-tail (λ byte. byte < 256) (suc n) bytes are) read

pub request-is_part : IsPart request
request-is_part = record { again = request_again; spelled = request_spelled }

-- no request has a number out of 1 to 25
pub no_request : (kind : ℕ) (bytes : List ℕ) → (kind ≡ 0) ⊎ (25 < kind) → None ≡ fields_at (numbered_reader kind) bytes
unfolding numbered_reader fields_at
no_request zero bytes out = refl
no_request (suc n) bytes out =
    let past : 25 ≤ n = elim out [ inl none ↦ absurd (omega (arith, none)) | inr above ↦ omega (arith, above) ] in
    rw (slice_get_past readers n past) refl
