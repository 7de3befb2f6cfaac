-- An association and its upper half have fewer than 2^63 bytes (`association_small`, `provider_small`), as
-- each call that is passed one has to know. Cited as an answer this saves a search through the whole layout at every call.
-- Stands on the definitions alone.
use Rattle.std.proofs.Common.{ℕ, ◌≤◌, ◌<◌, ◌^◌, List, [], ◌∷◌, arith}
use mir.Syntax.{Ty}
use prog.Memory.{size}
use denote.RattleType.{RattleType}
use denote.Param.{param, number}
use denote.Signature.{static_lft}
use denote.Enum.Declared as enum_row
use denote.Struct.Declared.{row}
use Rattle.engine.specs.contracts.phase.Phase as phase
use Rattle.engine.specs.contracts.provider.Provider as provider
use Rattle.engine.specs.contracts.association.Association as association
use Rattle.engine.specs.declared.provider.Provider.{Provider}

abbrev pub size_in : List Ty → ℕ
size_in [] = 0
size_in (t ∷ ts) = size t

abbrev pub size_of : RattleType → ℕ
size_of r = size_in r.mir

pub phase_fits : {A C V D : ℕ} → A ≤ 2 ^ 24 → C ≤ 2 ^ 24 → V ≤ 2 ^ 24 → D ≤ 2 ^ 24
    → size_of (enum_row.row (phase.the_type (param 0 (number A)) (param 1 (number C)) (param 2 (number V)) (param 3 (number D)))) < 2 ^ 63
phase_fits a c v d = grind arith

pub provider_fits : {A C V D : ℕ} → A ≤ 2 ^ 24 → C ≤ 2 ^ 24 → V ≤ 2 ^ 24 → D ≤ 2 ^ 24
    → size_of (row (provider.the_type static_lft (param 0 (number A)) (param 1 (number C)) (param 2 (number V)) (param 3 (number D)))) < 2 ^ 63
provider_fits a c v d = grind arith

pub association_fits : {A C V D : ℕ} → A ≤ 2 ^ 24 → C ≤ 2 ^ 24 → V ≤ 2 ^ 24 → D ≤ 2 ^ 24
    → size_of (row (association.the_type static_lft (param 0 (number A)) (param 1 (number C)) (param 2 (number V)) (param 3 (number D)))) < 2 ^ 63
association_fits a c v d = grind arith

-- the same of one whose type keeps these bounds
pub provider_small : {A C V D : ℕ} → (p : Provider A C V D)
    → size_of (row (provider.the_type static_lft (param 0 (number A)) (param 1 (number C)) (param 2 (number V)) (param 3 (number D)))) < 2 ^ 63
provider_small p = provider_fits p.greatest p.command_greatest p.greatest_kept p.greatest_levels

pub phase_small : {A C V D : ℕ} → (p : Provider A C V D)
    → size_of (enum_row.row (phase.the_type (param 0 (number A)) (param 1 (number C)) (param 2 (number V)) (param 3 (number D)))) < 2 ^ 63
phase_small p = phase_fits p.greatest p.command_greatest p.greatest_kept p.greatest_levels

pub association_small : {A C V D : ℕ} → (p : Provider A C V D)
    → size_of (row (association.the_type static_lft (param 0 (number A)) (param 1 (number C)) (param 2 (number V)) (param 3 (number D)))) < 2 ^ 63
association_small p = association_fits p.greatest p.command_greatest p.greatest_kept p.greatest_levels
