use Rattle.std.proofs.Common.{rules, ◌≡◌, length, ◌∙◌, sym, ap, refl, is_some, arith}
use Rattle.sequence.proofs.WantedValues.OneRoom.{started_at, not_found}
use Rattle.sequence.proofs.keep.Keep.begin.Goals as goal

pub offset_bounds-self-slot : goal.offset_bounds-self-slot
offset_bounds-self-slot g c =
    let k = c.args.self.now in
    let long : length k.lengths ≡ 16 = search rules in
    let f = started_at c.in-Some.slot k.wanted.list.items k.lengths k.bytes.items c.args.tag k.last (sym c.find.ensures ∙ c.in-Some.is) k.wanted.rising k.stored c.requires (omega (arith, long, k.wanted.few)) in
    omega (arith, f.within, k.wanted.few)

pub bounds-self-slot : goal.bounds-self-slot
bounds-self-slot g c =
    let k = c.args.self.now in
    let long : length k.lengths ≡ 16 = search rules in
    let f = started_at c.in-Some.slot k.wanted.list.items k.lengths k.bytes.items c.args.tag k.last (sym c.find.ensures ∙ c.in-Some.is) k.wanted.rising k.stored c.requires (omega (arith, long, k.wanted.few)) in
    omega (arith, f.within, k.wanted.few)

pub invariant_of-self : goal.invariant_of-self
invariant_of-self g c =
    let k = c.args.self.now in
    let long : length k.lengths ≡ 16 = search rules in
    let f = started_at c.in-Some.slot k.wanted.list.items k.lengths k.bytes.items c.args.tag k.last (sym c.find.ensures ∙ c.in-Some.is) k.wanted.rising k.stored c.requires (omega (arith, long, k.wanted.few)) in
    record { greatest = k.greatest; fit = k.fit; short = k.short; stored = f.fit; counted = f.size ∙ k.counted; latest = f.latest }

pub returns-in-None-clause-wanted : goal.returns-in-None-clause-wanted
returns-in-None-clause-wanted g c = let n = not_found 0 c.args.self.now.wanted.list.items c.args.tag (sym c.find.ensures ∙ c.in-None.is) in rw n refl

pub returns-in-None-clause-values : goal.returns-in-None-clause-values
returns-in-None-clause-values g c = let n = not_found 0 c.args.self.now.wanted.list.items c.args.tag (sym c.find.ensures ∙ c.in-None.is) in rw n refl

pub returns-in-None-clause-remaining : goal.returns-in-None-clause-remaining
returns-in-None-clause-remaining g c room e = let n = not_found 0 c.args.self.now.wanted.list.items c.args.tag (sym c.find.ensures ∙ c.in-None.is) in absurd cc

pub returns-in-Some-clause-wanted : goal.returns-in-Some-clause-wanted
returns-in-Some-clause-wanted g c =
    let k = c.args.self.now in
    let long : length k.lengths ≡ 16 = search rules in
    let f = started_at c.in-Some.slot k.wanted.list.items k.lengths k.bytes.items c.args.tag k.last (sym c.find.ensures ∙ c.in-Some.is) k.wanted.rising k.stored c.requires (omega (arith, long, k.wanted.few)) in
    sym (ap is_some f.remaining)

pub returns-in-Some-clause-values : goal.returns-in-Some-clause-values
returns-in-Some-clause-values g c =
    let k = c.args.self.now in
    let long : length k.lengths ≡ 16 = search rules in
    let f = started_at c.in-Some.slot k.wanted.list.items k.lengths k.bytes.items c.args.tag k.last (sym c.find.ensures ∙ c.in-Some.is) k.wanted.rising k.stored c.requires (omega (arith, long, k.wanted.few)) in
    rw f.remaining f.values

pub returns-in-Some-clause-remaining : goal.returns-in-Some-clause-remaining
returns-in-Some-clause-remaining g c room e =
    let k = c.args.self.now in
    let long : length k.lengths ≡ 16 = search rules in
    let f = started_at c.in-Some.slot k.wanted.list.items k.lengths k.bytes.items c.args.tag k.last (sym c.find.ensures ∙ c.in-Some.is) k.wanted.rising k.stored c.requires (omega (arith, long, k.wanted.few)) in
    cc
