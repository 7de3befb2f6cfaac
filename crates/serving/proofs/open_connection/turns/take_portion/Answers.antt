-- So many bytes complete a part, and fewer decide nothing.
use Rattle.std.proofs.Common.{◌≡◌, ℕ, ◌<◌, ◌≤◌, true, false, eqb, length, sym, ◌∙◌, arith, inl, inr}
use Rattle.std.proofs.lemmas.Bool.{cases_lt, eqb-true, eq-eqb}
use Rattle.engine.proofs.Public.{fewer_keep_the_decision}
use Rattle.serving.proofs.open_connection.turns.take_portion.Goals as goal

fewer : (n most : ℕ) → n ≤ most → eqb n most ≡ false → n < most
fewer n most le e =
    elim (cases_lt n most) [
      | inl lt ↦ lt
      | inr ge ↦ let wrong : true ≡ false = sym (eq-eqb n most (omega (arith, le, ge))) ∙ e in absurd cc
    ]

pub returns-clause-whole : goal.returns-clause-whole
returns-clause-whole g c e inputs story failed h live = (c.requires.ends inputs story failed _ h).1 live c.args.piece.now (eqb-true (length c.args.piece.now) c.args.limit e)

pub returns-clause-idle : goal.returns-clause-idle
returns-clause-idle g c e inputs story failed h =
    fewer_keep_the_decision _ _ inputs story failed c.args.piece.now c.args.limit _ _ _ _ h (c.requires.ends inputs story failed _ h).0 (fewer (length c.args.piece.now) c.args.limit c.requires.within e)
    (c.take.ensures.moved inputs story failed h)
