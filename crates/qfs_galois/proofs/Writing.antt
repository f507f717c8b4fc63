-- Bytes that are written sixteen at a time, and then one at a time.
use Rattle.std.proofs.Common.{◌≡◌, ◌≢◌, ℕ, ◌+◌, ◌-◌, ◌<◌, ◌≤◌, List, map, length, get_or, set, bit_xor, refl, sym, ap, ap₂, ◌∙◌, inl, inr, arith, get_or-set_other}
use Rattle.std.proofs.lemmas.Bool.{cases_lt}
use Rattle.std.proofs.lemmas.List.{length-map, get_or-map}
use Rattle.std.proofs.lemmas.Simd.{length-zip2, get_or-zip2, length-chunk, get_or-chunk, get_or-put_chunk_below, get_or-put_chunk_at, get_or-put_chunk_above}
use lib.Lanes.{zip2, chunk, put_chunk}
use Rattle.qfs_galois.specs.Lanes.{IsWritten}
use Rattle.qfs_galois.proofs.Bytes.{one_more}

-- sixteen lanes, and what each of them is
pub record Are (lanes : List ℕ) (value : ℕ → ℕ) : Type 0 where
  pub count : length lanes ≡ 16
  pub each : (i : ℕ) → i < 16 → get_or lanes i 0 ≡ value i

pub loaded_are : (at : ℕ) (bytes lanes : List ℕ) → at + 16 ≤ length bytes → lanes ≡ chunk at 16 bytes
    → Are lanes (λ i. get_or bytes (at + i) 0)
loaded_are at bytes lanes room is = record {
  count = ap length is ∙ length-chunk at 16 bytes room;
  each = λ i l. ap (λ v. get_or v i 0) is ∙ get_or-chunk at 16 bytes i 0 l;
}

pub mapped_are : (f value : ℕ → ℕ) (lanes mapped : List ℕ) → Are lanes value → mapped ≡ map f lanes
    → Are mapped (λ i. f (value i))
mapped_are f value lanes mapped are is = record {
  count = ap length is ∙ length-map lanes f ∙ are.count;
  each = λ i l. ap (λ v. get_or v i 0) is ∙ get_or-map f lanes i 0 0 (omega (arith, are.count)) ∙ ap f (are.each i l);
}

pub sums_are : (a b : ℕ → ℕ) (u v : List ℕ) → Are u a → Are v b → Are (zip2 bit_xor u v) (λ i. bit_xor (a i) (b i))
sums_are a b u v hu hv = record {
  count = length-zip2 bit_xor u v (hu.count ∙ sym hv.count) ∙ hu.count;
  each = λ i l. get_or-zip2 bit_xor u v i 0 0 0 (omega (arith, hu.count)) (omega (arith, hv.count)) ∙ ap₂ bit_xor (hu.each i l) (hv.each i l);
}

-- none is written at first
pub none_written : (wanted : ℕ → ℕ) (was : List ℕ) → IsWritten wanted was was 0
none_written wanted was = record { below = λ i l. absurd (omega arith); above = λ i l. refl }

-- sixteen bytes more
pub lanes_written : (wanted value : ℕ → ℕ) (was old new lanes : List ℕ) (at : ℕ) → at + 16 ≤ length old
    → IsWritten wanted was old at → Are lanes value → ((i : ℕ) → i < 16 → value i ≡ wanted (at + i))
    → new ≡ put_chunk at old lanes → IsWritten wanted was new (at + 16)
lanes_written wanted value was old new lanes at room written are wants is = record {
  below = λ t l. ap (λ s. get_or s t 0) is ∙ elim (cases_lt t at) [
    | inl early ↦ get_or-put_chunk_below at old lanes t 0 early ∙ written.below t early
    | inr late ↦
        let i = t - at in
        let there : at + i ≡ t = omega arith in
        let inside : i < 16 = omega arith in
        ap (λ k. get_or (put_chunk at old lanes) k 0) (sym there)
        ∙ get_or-put_chunk_at at old lanes i 0 (omega (arith, are.count)) (omega (arith, are.count))
        ∙ are.each i inside ∙ wants i inside ∙ ap wanted there
  ];
  above = λ t l. ap (λ s. get_or s t 0) is ∙ get_or-put_chunk_above at old lanes t 0 (omega (arith, are.count)) ∙ written.above t (omega arith);
}

-- one byte more
pub byte_written : (wanted : ℕ → ℕ) (was now : List ℕ) (i value : ℕ) → i < length now → IsWritten wanted was now i
    → value ≡ wanted i → IsWritten wanted was (set now i value) (i + 1)
byte_written wanted was now i value inside written is = record {
  below = one_more wanted now i value inside is written.below;
  above = λ k l. let other : k ≢ i = omega arith in get_or-set_other now i k value 0 other ∙ written.above k (omega arith);
}
