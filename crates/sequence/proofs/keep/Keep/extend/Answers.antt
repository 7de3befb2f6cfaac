use Rattle.std.proofs.Common.{◌+◌, ◌≤◌, ◌∙◌, ap, arith, get_or, length, slice_set}
use Rattle.arrayvec.specs.ArrayVec.{array_vec_len}
use Rattle.sequence.proofs.WantedValues.OneRoom.{fit_remaining}
use Rattle.sequence.proofs.WantedValues.MoreBytes.{extended, extend_facts, on_ok}
use Rattle.sequence.specs.Fields.{stored}
use Rattle.sequence.proofs.keep.Keep.extend.Given as given
use Rattle.sequence.proofs.keep.Keep.extend.Goals as goal
use Rattle.sequence.proofs.keep.Keep.extend.Goals.{After-try_extend_from_slice-fits}

has_room : (g : given.Over) (c : After-try_extend_from_slice-fits g) → array_vec_len c.args.self.now.bytes + length c.args.bytes.now ≤ g.row.V
has_room g c =
    let k = c.args.self.now in
    let l = fit_remaining k.slot k.wanted.list.items k.lengths k.last k.stored in
    omega (arith, l, k.fit, k.counted, c.requires.room)

pub overflow_cast-self : goal.overflow_cast-self
overflow_cast-self g c =
    let k = c.args.self.now in
    let f = extend_facts (length c.args.bytes.now) k.slot k.wanted.list.items k.lengths k.last c.requires.some c.requires.room k.latest k.stored (omega (arith, k.fit, k.greatest)) in
    omega (arith, f.small)

pub offset_bounds-self-self : goal.offset_bounds-self-self
offset_bounds-self-self g c =
    let k = c.args.self.now in
    let f = extend_facts (length c.args.bytes.now) k.slot k.wanted.list.items k.lengths k.last c.requires.some c.requires.room k.latest k.stored (omega (arith, k.fit, k.greatest)) in
    omega (arith, f.within, k.wanted.few)

pub bounds-self-self : goal.bounds-self-self
bounds-self-self g c =
    let k = c.args.self.now in
    let f = extend_facts (length c.args.bytes.now) k.slot k.wanted.list.items k.lengths k.last c.requires.some c.requires.room k.latest k.stored (omega (arith, k.fit, k.greatest)) in
    omega (arith, f.within, k.wanted.few)

pub bounds-self-self-2 : goal.bounds-self-self-2
bounds-self-self-2 g c =
    let k = c.args.self.now in
    let f = extend_facts (length c.args.bytes.now) k.slot k.wanted.list.items k.lengths k.last c.requires.some c.requires.room k.latest k.stored (omega (arith, k.fit, k.greatest)) in
    omega (arith, f.within, k.wanted.few)

pub overflow_add-self : goal.overflow_add-self
overflow_add-self g c =
    let k = c.args.self.now in
    let f = extend_facts (length c.args.bytes.now) k.slot k.wanted.list.items k.lengths k.last c.requires.some c.requires.room k.latest k.stored (omega (arith, k.fit, k.greatest)) in
    omega (arith, f.small)

pub invariant_of-self : goal.invariant_of-self
invariant_of-self g c =
    let k = c.args.self.now in
    let e = c.try_extend_from_slice-fits.ensures in
    let f = extend_facts (length c.args.bytes.now) k.slot k.wanted.list.items k.lengths k.last c.requires.some c.requires.room k.latest k.stored (omega (arith, k.fit, k.greatest)) in
    let len = on_ok c.try_extend_from_slice-fits.result (e.variant.1 (has_room g c)) e.len in
    let l = fit_remaining k.slot k.wanted.list.items k.lengths k.last k.stored in
    record { greatest = k.greatest; fit = k.fit; short = omega (arith, l, k.fit, k.counted, c.requires.room, len); stored = f.fit; counted = f.size ∙ omega (arith, k.counted, len); latest = f.latest }

pub returns-clause-values : goal.returns-clause-values
returns-clause-values g c =
    let k = c.args.self.now in
    let e = c.try_extend_from_slice-fits.ensures in
    let items = on_ok c.try_extend_from_slice-fits.result (e.variant.1 (has_room g (goal.at.returns-clause-values g c).After-try_extend_from_slice-fits)) e.ok in
    ap (λ z. stored k.wanted.list.items (slice_set k.lengths k.slot (get_or k.lengths k.slot 0 + length c.args.bytes.now)) z) items
    ∙ extended c.args.bytes.now k.slot k.wanted.list.items k.lengths k.bytes.items k.last c.requires.room k.latest k.stored k.counted (omega (arith, k.fit, k.greatest))

pub returns-clause-remaining : goal.returns-clause-remaining
returns-clause-remaining g c =
    let k = c.args.self.now in
    let f = extend_facts (length c.args.bytes.now) k.slot k.wanted.list.items k.lengths k.last c.requires.some c.requires.room k.latest k.stored (omega (arith, k.fit, k.greatest)) in
    f.remaining
