-- `new` makes a value of no bytes, at the empty list.
use Rattle.std.proofs.Common.{[], ◌∷◌, refl}
use Rattle.std.proofs.raw_atomic.Walks.{proved}
use base.Fml.{Fml}
use mir.MapTy.{inst_fn}
use mir.Val.{Val, vstruct, vcons, vnil}
use types.Kit.{‵, raw, ◌⊛◌, ◌$◌, ◌∵◌, !, qed, move, keep, split, use0, suffices, done}
use types.Part.{agg}
use types.Run.{enter, returns, and_then, no_more}
use types.ByLocal.{alloc_all, pass_all, free_all, look_at, get, sets}
use denote.RattleType.{RattleType, owns}
use denote.Shadow.{makes_shadow}
use denote.Signature.{types_at}
use denote.Steps.{nothing}
use denote.Triple.Clauses.{Ended}
use denote.Triple.Entry.{alive}
use denote.Triple.Walked.{walk_of, says, ends_at}
use Rattle.element.proofs.Histories.{args, R}
use Rattle.element.specs.contracts.history.History.new as f
use Rattle.element.proofs.history.History.new.Statement.{statement}
use Rattle.element.proofs.history.History.new.Code as code

module _ (Y : RattleType) where
  abbrev ended : Ended
  ended = f.ended Y

abbrev v : Val
v = vstruct (vcons (vstruct vnil) vnil)

pub new_spec : {M : Type 1} → statement M
new_spec 𝓤 𝓛 𝓜 𝓡 wired Y laws =
    let c = f.clauses Y 𝓛 𝓜.mem 𝓡.returns in let W = walk_of 𝓛 (ended Y) tt c in
    proved 𝓛 (ended Y) tt c 𝓜 𝓡 tt (f.Key.name (args Y)) (inst_fn (args Y) code.function) (code.unfolded 𝓤 𝓛.H 𝓜 𝓡 wired (Y, tt))
    (λ κs. tt) (λ κs. tt) (λ κs qs bounds a g are.
    let O : Fml = (R Y).own_val [] (v ∷ []) in
    let y : W.Ghost = ((κs, qs, bounds, a, tt), g) in
    qed 𝓛 ((raw (alive 𝓛 (ended Y).signature κs qs) ⊛ ‵ (owns (types_at (ended Y).signature.params κs) a tt)) ∷ raw ((c κs a).requires g) ∷ []) ∵
    keep ! (0 ∷ []) $ split ! $ keep ! (0 ∷ []) $
    enter ! _ _ _ _ _ $ alloc_all ! (λ l. pass_all ! refl tt $
    sets ! (agg ! (no_more !)) refl (tt, tt) $
    sets ! (agg ! (and_then ! (get ! refl) (no_more !))) refl (tt, (tt, tt)) $
    use0 𝓛 (‵ O) (makes_shadow 𝓛 O (λ x. (((λ vss. (tt, ((λ uss. (tt, tt)), tt))), tt), tt)) ((record { marker = record {}; all = [] }, (refl, tt)), ((((vstruct vnil ∷ [], tt), (refl, ((tt, (refl, tt)), tt))), tt), tt))) $
    returns ! (look_at ! 0 refl) $ free_all ! refl $
    suffices ! _ (ends_at 𝓛 (ended Y) tt c y v [] tt tt) $ says ! refl $
    nothing ! $ move ! (2 ∷ 0 ∷ 1 ∷ []) $ done !))
