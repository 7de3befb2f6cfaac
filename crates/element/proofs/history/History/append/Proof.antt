-- An empty body: the borrow is opened, and closed at the list with these values more.
use Rattle.std.proofs.Common.{List, [], ◌∷◌, ◌++◌, refl}
use Rattle.std.proofs.raw_atomic.Walks.{proved}
use base.Fml.{ftrue, flft}
use mir.MapTy.{inst_fn}
use mir.Syntax.{named}
use mir.Val.{Val, vunit, vptr}
use types.Kit.{‵, raw, ◌⊛◌, ◌$◌, ◌∵◌, !, qed, done, move, keep, drop, use1, split, join, fsplit, fsplit3, fjoin, fjoin3, feq_i, suffices, frame}
use types.Run.{enter, of_opd, unit_lit, returns}
use types.ByLocal.{alloc_all, pass_all, free_all, look_at, sets}
use denote.Exit.{yes}
use denote.Param.{param}
use denote.RattleType.{RattleType, owns}
use denote.Ref.{MutRef, mut_vals, mut_Tells}
use denote.Signature.{plain}
use denote.Slice.{ShrSlice, shr_slice_vals, shr_slice_Tells}
use denote.Steps.{opens, closes}
use denote.Triple.Clauses.{Ended}
use denote.Triple.Walked.{Stays, walk_of, says, stay_ref, stay_none_slice, Goes-ref, Goes-none_slice, ends_at}
use Rattle.element.proofs.Histories.{args, R, turns}
use Rattle.element.specs.contracts.history.History.append as f
use Rattle.element.proofs.history.History.append.Statement.{statement}
use Rattle.element.proofs.history.History.append.Code as code

module _ (Y : RattleType) where
  abbrev ended : Ended
  ended = f.ended Y

  abbrev stayed : Stays ended.signature.params ended.kept
  stayed = (stay_ref (0 ∷ []) tt (plain (λ _. R Y)), (stay_none_slice (1 ∷ []) tt (plain (λ _. param 0 Y)) yes, tt))

pub append_spec : {M : Type 1} → statement M
append_spec 𝓤 𝓛 𝓜 𝓡 wired Y laws =
    let c = f.clauses Y 𝓛 𝓜.mem 𝓡.returns in let W = walk_of 𝓛 (ended Y) (stayed Y) c in
    proved 𝓛 (ended Y) (stayed Y) c 𝓜 𝓡 (Goes-ref 𝓛 3 0 tt (plain (λ _. R Y)), (Goes-none_slice 𝓛 3 (1 ∷ []) tt (plain (λ _. param 0 Y)) yes, tt))
    (f.Key.name (args Y)) (inst_fn (args Y) code.function) (code.unfolded 𝓤 𝓛.H 𝓜 𝓡 wired (Y, tt))
    (λ κs. (mut_vals, (shr_slice_vals, tt))) (λ κs. (mut_Tells (named 0) κs.0 (R Y), (shr_slice_Tells (named 1) κs.1.0 (param 0 Y), tt))) (λ κs qs bounds a g are.
    let b = a.0.ref_ptr.0 in let o = a.0.ref_ptr.1 in let h = a.0.now in let vss : List Val × (List Val × Unit {0}) = (mut_vals a.0, (shr_slice_vals a.1.0, tt)) in
    let h' : (R Y).Denot = h ++ a.1.0.now in
    let y : W.Ghost = ((κs, qs, bounds, a, vss), g) in
    qed 𝓛 (((‵ (flft κs.0 qs.0) ⊛ (‵ (flft κs.1.0 qs.1.0) ⊛ (‵ (flft κs.1.1.0 qs.1.1.0) ⊛ ‵ ftrue))) ⊛ ‵ (owns (MutRef (named 0) κs.0 (R Y) ∷ ShrSlice (named 1) κs.1.0 (param 0 Y) ∷ []) a vss)) ∷ raw ((c κs a).requires g) ∷ []) ∵
    split ! $ split ! $ keep ! (2 ∷ 0 ∷ 1 ∷ []) $ fsplit ! $ fsplit3 ! $ drop ! $ move ! (0 ∷ 1 ∷ 3 ∷ []) $
    enter ! _ _ _ _ _ $ alloc_all ! (λ l. pass_all ! refl ((tt, tt), ((tt, (tt, (record { fits = are.1.0.0.1.0 }, tt))), tt)) $
    opens ! tt (R Y) {h = h} b o (λ us.
    sets ! (of_opd ! (unit_lit !)) refl (tt, tt) $
    move ! (1 ∷ []) $ use1 𝓛 (‵ ((R Y).own_val h' us)) (turns Y 𝓛 h h' us) $ move ! (1 ∷ 0 ∷ []) $ closes ! tt (R Y) h' us b o $
    returns ! (look_at ! 0 refl) $ free_all ! refl $
    suffices ! _ (ends_at 𝓛 (ended Y) (stayed Y) c y vunit tt (h', (tt, tt)) (tt, (tt, tt))) $ says ! refl $ move ! (2 ∷ 4 ∷ []) $ join ! $
    frame ! $ feq_i ! (List Val) (vptr b o ∷ []) (vptr b o ∷ []) refl $ fjoin3 ! $ fjoin ! $
    feq_i ! (List Val) (vunit ∷ []) (vunit ∷ []) refl $ move ! (1 ∷ 0 ∷ []) $ done !)))
