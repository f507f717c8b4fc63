-- `of` makes a value of no bytes, whose ghost field is the value that the caller picks.
use Rattle.std.proofs.Common.{[], ◌∷◌, refl}
use Rattle.std.proofs.raw_atomic.Walks.{proved}
use base.Fml.{Fml}
use contract.Running.{tables}
use denote.Builtin.{RefOf}
use denote.Exit.{yes}
use denote.Param.{param, layouts}
use denote.RattleType.{RattleType, owns}
use denote.Ref.{shr_vals}
use denote.Shadow.{makes_shadow}
use denote.Signature.{types_at, type_at, plain}
use denote.Steps.{nothing}
use denote.Triple.Entry.{Res, alive}
use denote.Triple.Walked.{Stays, stay_dropped, walk_of, Goes-dropped, says, ends_at}
use mir.MapTy.{inst_fn}
use mir.Syntax.{Fn, a_type}
use mir.Val.{Val, vptr, vstruct, vcons, vnil}
use types.ByLocal.{alloc_all, pass_all, free_all, look_at, get, sets}
use types.Kit.{‵, raw, ◌⊛◌, ◌$◌, ◌∵◌, !, qed, move, keep, split, join, fjoin, use0, suffices, done}
use types.Part.{agg}
use types.Run.{no_more, and_then, returns, enter}
use Rattle.qfs_machine.specs.contracts.ghost_value.Ghost.of as f
use Rattle.qfs_machine.proofs.ghost_value.Ghost.of.Statement.{statement}
use Rattle.qfs_machine.proofs.ghost_value.Ghost.of.Code as code

module _ (T A B : RattleType) where
  abbrev stayed : Stays (f.ended T A B).signature.params (f.ended T A B).kept
  stayed =
      (stay_dropped (RefOf (0 ∷ []) tt (plain (λ _. param 1 A)) (λ _. tt)) yes, (stay_dropped (RefOf (1 ∷ []) tt (plain (λ _. param 2 B)) (λ _. tt)) yes, tt))

pub of_spec : {M : Type 1} → statement M
of_spec 𝓤 𝓛 𝓜 𝓡 wired T A B T-laws A-laws B-laws =
    let En = f.ended T A B in let hs = stayed T A B in
    let c = f.clauses T A B 𝓛 𝓜.mem 𝓡.returns in let W = walk_of 𝓛 En hs c in let 𝓣 = tables 𝓤 𝓛.H 𝓜 𝓡 𝓡.env in
    let function : Fn = inst_fn (layouts (a_type ∷ a_type ∷ a_type ∷ []) (T, (A, (B, tt)))) code.function in
    proved 𝓛 En hs c 𝓜 𝓡
    (Goes-dropped 𝓛 5 (RefOf (0 ∷ []) tt (plain (λ _. param 1 A)) (λ _. tt)) yes (λ κs x w. refl), (Goes-dropped 𝓛 5 (RefOf (1 ∷ []) tt (plain (λ _. param 2 B)) (λ _. tt)) yes (λ κs x w. refl), tt))
    (f.Key.name (layouts (a_type ∷ a_type ∷ a_type ∷ []) (T, (A, (B, tt))))) function (code.unfolded 𝓤 𝓛.H 𝓜 𝓡 wired (T, (A, (B, tt))))
    (λ κs. (shr_vals, (shr_vals, tt))) (λ κs. ((λ r vs s. s.0), ((λ r vs s. s.0), tt))) (λ κs qs bounds a next are.
    let y : W.Ghost = ((κs, qs, bounds, a, (shr_vals a.0, (shr_vals a.1.0, tt))), next) in
    let v : Val = vstruct (vcons (vstruct vnil) vnil) in let r : Res En.signature κs = record { marker = record {}; value = next } in
    let O : Fml = (type_at En.signature.result κs).own_val r (v ∷ []) in
    let passed : Fml = owns (types_at En.signature.params κs) a y.0.4 in
    qed 𝓛 ((raw (alive 𝓛 En.signature κs qs) ⊛ ‵ passed) ∷ raw ((c κs a).requires next) ∷ []) ∵ split ! $ keep ! (0 ∷ []) $
    enter ! 𝓣.C 𝓣.Λ function (vptr a.0.ref_ptr.0 a.0.ref_ptr.1 ∷ vptr a.1.0.ref_ptr.0 a.1.0.ref_ptr.1 ∷ []) _ $
    alloc_all ! (λ l. pass_all ! refl ((tt, tt), ((tt, tt), tt)) $
    sets ! (agg ! (no_more !)) refl (tt, tt) $ sets ! (agg ! (and_then ! (get ! refl) (no_more !))) refl (tt, (tt, tt)) $
    returns ! (look_at ! 0 refl) $ free_all ! refl $
    use0 𝓛 (‵ O) (makes_shadow 𝓛 O ((λ vss. (tt, ((λ uss. (tt, tt)), tt))), tt) (((vstruct vnil ∷ [], tt), (refl, ((tt, (refl, tt)), tt))), tt)) $
    suffices ! _ (ends_at 𝓛 En hs c y v r (tt, (tt, tt)) (tt, (tt, tt))) $ says ! refl $
    nothing ! $ nothing ! $ fjoin ! $ nothing ! $ fjoin ! $ join ! $ move ! (1 ∷ 0 ∷ []) $ join ! $ done !))
