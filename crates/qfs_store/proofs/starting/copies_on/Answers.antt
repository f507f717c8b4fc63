-- The checks begin, go on and end.
use Rattle.std.proofs.Common.{◌≡◌, ◌+◌, List, map, is_some, refl, sym, ap, subst, ◌∙◌}
use Rattle.std.specs.List.Sorted.{IsStrictlySortedBy}
use Rattle.std.proofs.lemmas.Result.{err_from_is_err_and}
use Rattle.std.proofs.lemmas.Option.{same_Some}
use Rattle.qfs_base.specs.Key.{key_cmp}
use Rattle.qfs_device.specs.Held.{Held, sizes_of}
use Rattle.qfs_device.specs.declared.chunk_device.KeySize.{KeySize}
use Rattle.qfs_store.specs.Start.{Checked, Reads}
use Rattle.qfs_store.proofs.ReadLaws.{if_some_at, all_begin, check_next, all_end, nil_if, readable_here, read_more, some_of, contents_rise, found_err}
use Rattle.qfs_store.proofs.starting.copies_on.Goals as goal

pub loop-chunk-init : goal.loop-chunk-init
loop-chunk-init g c = record {
  checks = λ held told_is.
      let was = sym c.keys.ensures.same ∙ told_is in
      let are = if_some_at (λ (held : Held). c.in_ok-sizes.sizes ≡ sizes_of held.contents) _ held was c.in_ok-sizes.ensures.sizes in
      let rising = if_some_at (λ (_ : Held). IsStrictlySortedBy key_cmp (map (λ (chunk : KeySize). chunk.key) c.in_ok-sizes.sizes)) _ held was c.in_ok-sizes.ensures.rising in
      subst (λ (rest : List KeySize). Checked c.args.stripe held (g.D.ChunkDevice.told c.keys.new.self) c.in_ok-copies.copies c.in_ok-copies.copies rest rest)
      (sym c.into_iter-chunk-iterator.ensures.into_iter_gives.0) (all_begin c.args.stripe held _ c.in_ok-copies.copies _ told_is are rising);
  tells = refl;
  counts = refl;
}

pub check-requires-clause-readable : goal.check-requires-clause-readable
check-requires-clause-readable g c _ _ here told_is =
    let begun = some_of (g.D.ChunkDevice.told c.keys.new.self) (sym c.loop-chunk.invariant.tells ∙ ap is_some told_is) in
    readable_here c.args.stripe begun.0 here _ _ _ _ c.in-Some.chunk.now _
    (subst (Checked c.args.stripe begun.0 _ _ _ _) c.in-Some.ensures.steps (c.loop-chunk.invariant.checks begun.0 begun.1)) told_is

pub loop-chunk-preserved : goal.loop-chunk-preserved
loop-chunk-preserved g c = record {
  checks = λ held told_is.
      check_next c.args.stripe held _ _ _ _ _ _ c.in-Some.chunk.now _
      (subst (Checked c.args.stripe held _ _ _ _) c.in-Some.ensures.steps (c.loop-chunk.invariant.checks held told_is)) c.in_ok-check.ensures.checked;
  tells = c.check.ensures.tells ∙ c.loop-chunk.invariant.tells;
  counts = c.in_ok-check.ensures.counts ∙ c.loop-chunk.invariant.counts;
}

pub returns-in_err-check-clause-found : goal.returns-in_err-check-clause-found
returns-in_err-check-clause-found g c =
    let p = err_from_is_err_and c.from_residual-in_err-check.result c.from_residual-in_err-check.ensures.1 in
    let same : p.0 ≡ c.in_err-check.field-0.0 = p.2 in
    rw (p.1, same) (found_err c.args.stripe c.in_err-check.field-0.0 _ _ c.in_err-check.ensures.no_memory
    (λ held told_is.
    let checks = c.loop-chunk.invariant.checks held (c.keys.ensures.same ∙ told_is) in
    let more = c.in_err-check.ensures.checked checks.reads.after checks.reads.told_is in (
      checks.count + more.0,
      read_more held _ _ checks.count more.0 checks.reads
          (λ now now_is. subst (λ (h : Held). Reads h (g.D.ChunkDevice.told c.check.new.device) more.0) (same_Some checks.reads.after now (sym checks.reads.told_is ∙ now_is)) more.1),
    )))

pub returns-clause-found : goal.returns-clause-found
returns-clause-found g c held told_is =
    let are = if_some_at (λ (held : Held). c.in_ok-sizes.sizes ≡ sizes_of held.contents) _ held told_is c.in_ok-sizes.ensures.sizes in
    let rising = if_some_at (λ (_ : Held). IsStrictlySortedBy key_cmp (map (λ (chunk : KeySize). chunk.key) c.in_ok-sizes.sizes)) _ held told_is c.in_ok-sizes.ensures.rising in
    let checks = c.loop-chunk.invariant.checks held (c.keys.ensures.same ∙ told_is) in
    let begun = c.into_iter-chunk-iterator.ensures.into_iter_gives.0 in
    let told = g.D.ChunkDevice.told c.loop-chunk.device in
    let rest = c.loop-chunk.chunk-iterator.rest.now in
    all_end c.args.stripe held told c.in_ok-copies.copies c.loop-chunk.copies c.in_ok-sizes.sizes rest
    (subst (λ (sizes : List KeySize). Checked c.args.stripe held told c.in_ok-copies.copies c.loop-chunk.copies sizes rest) begun checks) (nil_if rest c.in-None.ensures.steps.0) c.in_ok-copies.ensures are (contents_rise held _ are rising)
