-- A history has no bytes at run time, and nothing of the memory says what it holds: what owns it at one list owns it
-- at any other.
use Rattle.std.proofs.Common.{◌≡◌, List, [], ◌∷◌, refl}
use seplogic.Ra.Ura.{Ura}
use mir.Syntax.{Args, a_type}
use mir.Val.{Val}
use base.Logic.{ent, ex_i, ex_e}
use base.Fml.{Fml, fsep, ftrue}
use types.Logic.{Logic, sem}
use denote.Param.{param, layouts}
use denote.RattleType.{RattleType}
use Rattle.element.specs.contracts.history.History as History

module _ (Y : RattleType) where
  abbrev pub args : Args
  args = layouts (a_type ∷ []) (Y, tt)

  abbrev pub R : RattleType
  R = History.the_row (param 0 Y)

  abbrev F : RattleType
  F = History.TheInside.the_row (param 0 Y)

  abbrev Of : R.Denot → Type 0
  Of h = (x : F.Denot) × ((x.all ≡ h) × Unit {0})

  abbrev body : (vs : List Val) (h : R.Denot) → Of h → Fml
  body vs h x = fsep (F.own_val x.0 vs) ftrue

  pub turns : {M : Type 1} {𝓤 : Ura M} (𝓛 : Logic 𝓤) (h h' : R.Denot) (vs : List Val) → ent 𝓤 (sem 𝓛 (R.own_val h vs)) (sem 𝓛 (R.own_val h' vs))
  turns {𝓤 = 𝓤} 𝓛 h h' vs = ex_e 𝓤 (λ x. sem 𝓛 (body vs h x)) (λ x. ex_i 𝓤 (λ y. sem 𝓛 (body vs h' y)) (record { marker = x.0.marker; all = h' }, (refl, tt)))
