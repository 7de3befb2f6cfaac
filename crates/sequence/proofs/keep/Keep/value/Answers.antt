use Rattle.std.proofs.Common.{◌≡◌, ◌∙◌, ap, arith, length, slice_set, if◌then◌else◌}
use Rattle.sequence.specs.Wanted.{value_of}
use Rattle.sequence.specs.Fields.{stored, absent}
use Rattle.sequence.specs.machine.Keeping.{counts}
use Rattle.sequence.proofs.WantedValues.OneRoom.{push_facts, reported_counts, reported_stored}
use Rattle.sequence.proofs.keep.Keep.value.Goals as goal

pub reported_lengths-lengths-requires : goal.reported_lengths-lengths-requires
reported_lengths-lengths-requires g c e =
    let k = c.args.self.now in
    let f = push_facts k.slot k.wanted.list.items k.lengths k.last (c.requires e) k.latest k.stored (omega (arith, k.fit, k.greatest)) in
    omega (arith, f.within, k.wanted.few)

pub find_value-requires-clause-fit : goal.find_value-requires-clause-fit
find_value-requires-clause-fit g c =
    let k = c.args.self.now in
    let t = reported_counts c.args.started k.slot k.wanted.list.items k.lengths in
    let a : counts c.as_slice.result.now c.reported_lengths-lengths.result ≡ counts k.wanted.list.items (if c.args.started then slice_set k.lengths k.slot absent else k.lengths) =
    ap (λ z. counts z c.reported_lengths-lengths.result) c.as_slice.ensures ∙ ap (λ z. counts k.wanted.list.items z) c.reported_lengths-lengths.ensures in
    omega (arith, t, a, k.counted, ap length c.as_slice-2.ensures.value)

pub returns : goal.returns
returns g c =
    let k = c.args.self.now in
    c.find_value.ensures ∙ ap (λ z. value_of (stored z c.reported_lengths-lengths.result c.as_slice-2.result.now) c.args.tag) c.as_slice.ensures
    ∙ ap (λ z. value_of (stored k.wanted.list.items z c.as_slice-2.result.now) c.args.tag) c.reported_lengths-lengths.ensures
    ∙ ap (λ z. value_of (stored k.wanted.list.items (if c.args.started then slice_set k.lengths k.slot absent else k.lengths) z) c.args.tag) c.as_slice-2.ensures.value
    ∙ ap (λ z. value_of z c.args.tag) (reported_stored c.args.started k.slot k.wanted.list.items k.lengths k.bytes.items c.requires k.latest)
