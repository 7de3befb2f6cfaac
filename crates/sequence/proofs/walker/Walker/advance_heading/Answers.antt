use Rattle.std.proofs.Common.{◌≡◌, ◌+◌, ◌-◌, ◌<◌, ◌≤◌, ◌++◌, [], ◌∙◌, ℕ, length, take, true, None, eqb-true, false-eqb, length-append, ap, sym, subst, refl, arith, rules}
use Rattle.std.proofs.lemmas.List.{length-take-le}
use Rattle.element.specs.declared.header.Header.{Header}
use Rattle.element.specs.Header.{number, is_marker}
use Rattle.sequence.specs.Shape.{is_undefined}
use Rattle.sequence.specs.declared.shape.Shape.{Shape}
use Rattle.sequence.specs.declared.fault.Fault.{Fault}
use Rattle.sequence.specs.declared.stage.Stage.TheVariants as stages
use Rattle.sequence.specs.declared.heading.End.{End}
use Rattle.sequence.specs.declared.heading.End.TheVariants as ends
use Rattle.sequence.specs.Rules.{counted_length}
use Rattle.sequence.specs.machine.Spare.{spare, owed}
use Rattle.sequence.specs.machine.Machine.{State, ArrivesAt, Stopped, at, spot_of, run}
use Rattle.sequence.specs.machine.Steps.{IsConsumed}
use Rattle.sequence.specs.machine.Keeping.{keeps}
use Rattle.sequence.specs.machine.Scopes.{top_of, below_of}
use Rattle.sequence.specs.machine.Judging.{limits_by}
use Rattle.sequence.specs.machine.Heading.{IsEnd, IsQuiet, kept_by, is_started}
use Rattle.sequence.specs.machine.State.{top, below, limits_of, mode_of, has_room, fits_wanted, kept_values}
use Rattle.sequence.proofs.CodeIsMachine.InnermostLevel.{below_length}
use Rattle.sequence.proofs.CodeIsMachine.ValueBytes.{take_offset, take_arrives}
use Rattle.sequence.proofs.CodeIsMachine.KeptHeader.{started_tail, quiet_started, none_reported}
use Rattle.sequence.proofs.CodeIsMachine.SplitHeader.{no_items}
use Rattle.sequence.proofs.CodeIsMachine.StateAfterCall.{defined_remaining, within_limit, has_room_remaining, fits_remaining, rises}
use Rattle.sequence.proofs.CodeIsMachine.HeaderBytes.{refused_run, refused_kept, refused_reported, whole_run, whole_kept, whole_reported, all_quiet, part_run, part_kept, part_reported, part_short_of}
use Rattle.sequence.proofs.walker.Walker.advance_heading.Given as given
use Rattle.sequence.proofs.walker.Walker.advance_heading.Goals as goal
use Rattle.sequence.proofs.walker.Walker.advance_heading.Goals.{After-header_end}

pub returns-then-is_empty : goal.returns-then-is_empty
unfolding run keeps
returns-then-is_empty g c =
    let empty = eqb-true (length c.args.piece.now) 0 (sym c.is_empty.ensures ∙ c.if-is_empty.true) in
    record {
      consumed = omega arith;
      some = λ some. absurd (omega (arith, some, empty));
      state = refl;
      same = record { syntax = refl; limit = refl; wanted = refl };
      values = refl;
      offset = omega arith;
      reported = none_reported (limits_of c.args.self.now) (top c.args.self.now) (below c.args.self.now) c.args.self.now.offset c.args.self.now.header.items c.args.piece.now c.args.self.now.stage c.args.self.now.started c.requires (no_items c.args.piece.now (eqb-true (length c.args.piece.now) 0 (sym c.is_empty.ensures ∙ c.if-is_empty.true)));
    }

-- where the header ends, in the walker's words
ended : (g : given.Over) (c : After-header_end g) → IsEnd (limits_of c.args.self.now) (spot_of (top c.args.self.now) (below c.args.self.now) (c.args.self.now.offset - length c.args.self.now.header.items)) (c.args.self.now.header.items ++ c.args.piece.now) (length c.args.self.now.header.items) c.header_end.result
ended g c =
    let w = c.args.self.now in
    let spot-is : c.spot_at-spot.result ≡ spot_of (top c.args.self.now) (below c.args.self.now) (c.args.self.now.offset - length c.args.self.now.header.items) =
    c.spot_at-spot.ensures ∙ ap (λ z. spot_of (top_of c.args.self.now.root z) (below_of c.args.self.now.root [] z) (c.args.self.now.offset - c.len-started.result)) c.as_slice.ensures.value
    ∙ ap (λ z. spot_of (top c.args.self.now) (below c.args.self.now) (c.args.self.now.offset - z)) c.len-started.ensures.value in
    subst (λ z. IsEnd (limits_of c.args.self.now) z (c.args.self.now.header.items ++ c.args.piece.now) (length c.args.self.now.header.items) c.header_end.result) spot-is
    (subst (λ z. IsEnd z c.spot_at-spot.result (c.args.self.now.header.items ++ c.args.piece.now) (length c.args.self.now.header.items) c.header_end.result) (ap (λ z. limits_by z.list.items (record { depth = g.row.D; bytes = c.args.self.now.limit })) c.wanted.ensures) c.header_end.ensures.end)

end-is : (g : given.Over) (c : After-header_end g) (e : End) → c.header_end.result ≡ e → IsEnd (limits_of c.args.self.now) (spot_of (top c.args.self.now) (below c.args.self.now) (c.args.self.now.offset - length c.args.self.now.header.items)) (c.args.self.now.header.items ++ c.args.piece.now) (length c.args.self.now.header.items) e
end-is g c e is = subst (λ z. IsEnd (limits_of c.args.self.now) (spot_of (top c.args.self.now) (below c.args.self.now) (c.args.self.now.offset - length c.args.self.now.header.items)) (c.args.self.now.header.items ++ c.args.piece.now) (length c.args.self.now.header.items) z) is (ended g c)

some-piece : (g : given.Over) (c : After-header_end g) → 0 < length c.args.piece.now
some-piece g c = let some = false-eqb (length c.args.piece.now) 0 (sym (sym c.is_empty.ensures ∙ c.if-is_empty.false)) in omega (arith, some)

pub returns-in-Refused : goal.returns-in-Refused
returns-in-Refused g c =
    let started = c.len-started.ensures.value in
    let k = end-is g (goal.at.returns-in-Refused g c).After-header_end (ends.Refused c.in-Refused.count c.in-Refused.rule c.in-Refused.tag) c.in-Refused.is in
    let size = length-append c.args.self.now.header.items c.args.piece.now in
    record {
      consumed = omega (arith, k.0.some, size, started);
      some = λ some. omega (arith, k.0.more, started);
      state = ap (λ (f : Fault). at (top c.args.self.now) (below c.args.self.now) (c.args.self.now.offset - c.len-started.result + c.in-Refused.count) (Stopped f.number f.offset f.tag)) c.new.ensures
          ∙ refused_run (limits_of c.args.self.now) (top c.args.self.now) (below c.args.self.now) c.args.self.now.offset c.args.self.now.header.items c.args.piece.now c.args.self.now.behind c.args.self.now.stage c.requires c.len-started.result c.len-started.ensures.value c.in-Refused.count c.in-Refused.rule c.in-Refused.tag (end-is g (goal.at.returns-in-Refused g c).After-header_end (ends.Refused c.in-Refused.count c.in-Refused.rule c.in-Refused.tag) c.in-Refused.is);
      same = record { syntax = refl; limit = refl; wanted = refl };
      values = refused_kept (limits_of c.args.self.now) (top c.args.self.now) (below c.args.self.now) c.args.self.now.offset c.args.self.now.header.items c.args.piece.now c.args.self.now.behind c.args.self.now.stage c.requires c.len-started.result c.len-started.ensures.value (kept_values c.args.self.now) c.in-Refused.count c.in-Refused.rule c.in-Refused.tag (end-is g (goal.at.returns-in-Refused g c).After-header_end (ends.Refused c.in-Refused.count c.in-Refused.rule c.in-Refused.tag) c.in-Refused.is);
      offset = omega (arith, started, k.0.more, c.args.self.now.behind);
      reported = subst (λ z. IsConsumed (top c.args.self.now).syntax c.args.self.now.header.items c.args.piece.now c.args.self.now.offset (c.in-Refused.count - c.len-started.result) (stages.Stopped z) c.header_end.new.header.items None) (sym c.new.ensures)
          (refused_reported (limits_of c.args.self.now) (top c.args.self.now) (below c.args.self.now) c.args.self.now.offset c.args.self.now.header.items c.args.piece.now c.args.self.now.behind c.args.self.now.stage c.requires c.len-started.result c.len-started.ensures.value c.in-Refused.count c.in-Refused.rule c.in-Refused.tag c.header_end.new.header.items (end-is g (goal.at.returns-in-Refused g c).After-header_end (ends.Refused c.in-Refused.count c.in-Refused.rule c.in-Refused.tag) c.in-Refused.is));
    }

-- no byte of a header that is refused or whole is kept
emptied : (g : given.Over) (c : After-header_end g) (e : End) → c.header_end.result ≡ e → kept_by e (c.args.self.now.header.items ++ c.args.piece.now) ≡ [] → c.header_end.new.header.items ≡ []
emptied g c e is none = c.header_end.ensures.kept ∙ (ap (λ z. kept_by z (c.args.self.now.header.items ++ c.args.piece.now)) is ∙ none)

pub invariant_of-self : goal.invariant_of-self
invariant_of-self g c =
    let b = (goal.at.invariant_of-self g c).After-header_end in
    let w = c.args.self.now in
    let started = c.len-started.ensures.value in
    let k = end-is g b (ends.Refused c.in-Refused.count c.in-Refused.rule c.in-Refused.tag) c.in-Refused.is in
    let empty = emptied g b (ends.Refused c.in-Refused.count c.in-Refused.rule c.in-Refused.tag) c.in-Refused.is refl in
    let none = ap length empty in
    record {
      greatest_v = w.greatest_v;
      greatest_d = w.greatest_d;
      no_end = w.no_end;
      elements = w.elements;
      few = omega (arith, none);
      together = omega (arith, none, w.together);
      started = ap (is_started (limits_of w) (top w) (below w) (w.offset - c.len-started.result + c.in-Refused.count)) empty;
      behind = omega (arith, none);
      due = omega arith;
      small = w.small;
      within = omega (arith, k.0.short, started, w.behind, ap (λ z. spare z (length c.args.self.now.header.items)) c.requires, ap owed c.requires, w.within);
      flag = refl;
      room = omega arith;
      order = w.order;
    }

-- the header's end is within the limit
fits_limit : (g : given.Over) (c : After-header_end g) (n : ℕ) (h : Header) (sh : Shape) → c.header_end.result ≡ ends.Whole n h sh → c.args.self.now.offset - c.len-started.result + n + counted_length h.length ≤ c.args.self.now.limit
fits_limit g c n h sh is =
    let k = end-is g c (ends.Whole n h sh) is in
    let size = length-take-le n (c.args.self.now.header.items ++ c.args.piece.now) k.0.some in
    let fits = within_limit (limits_of c.args.self.now) (spot_of (top c.args.self.now) (below c.args.self.now) (c.args.self.now.offset - length c.args.self.now.header.items)) (take n (c.args.self.now.header.items ++ c.args.piece.now)) k.1.fine k.1.whole in
    let same = ap (λ (z : Header). counted_length z.length) k.1.read in
    omega (arith, fits, size, same, c.len-started.ensures.value)

pub invariant_of-self-in-Whole : goal.invariant_of-self-in-Whole
invariant_of-self-in-Whole g c =
    let b = (goal.at.invariant_of-self-in-Whole g c).After-header_end in
    let w = c.args.self.now in
    let fits = fits_limit g b c.in-Whole.count c.in-Whole.header c.in-Whole.shape c.in-Whole.is in
    let empty = emptied g b (ends.Whole c.in-Whole.count c.in-Whole.header c.in-Whole.shape) c.in-Whole.is refl in
    let none = ap length empty in
    record {
      greatest_v = w.greatest_v;
      greatest_d = w.greatest_d;
      no_end = w.no_end;
      elements = w.elements;
      few = omega (arith, none);
      together = omega (arith, none, w.together);
      started = ap (is_started (limits_of w) (top w) (below w) (w.offset - c.len-started.result + c.in-Whole.count)) empty;
      behind = omega (arith, none);
      due = w.due;
      small = w.small;
      within = rw c.requires (omega (arith, fits));
      flag = w.flag;
      room = w.room;
      order = w.order;
    }

pub take_header-requires : goal.take_header-requires
take_header-requires g c =
    let b = (goal.at.take_header-requires g c).After-header_end in
    let k = end-is g b (ends.Whole c.in-Whole.count c.in-Whole.header c.in-Whole.shape) c.in-Whole.is in
    let spot = spot_of (top c.args.self.now) (below c.args.self.now) (c.args.self.now.offset - length c.args.self.now.header.items) in
    let t = take c.in-Whole.count (c.args.self.now.header.items ++ c.args.piece.now) in
    let fits = fits_limit g b c.in-Whole.count c.in-Whole.header c.in-Whole.shape c.in-Whole.is in
    let depth-is : length (below c.args.self.now) ≡ length c.args.self.now.levels.items = omega (arith, below_length c.args.self.now.root [] c.args.self.now.levels.items) in
    let remaining = has_room_remaining (limits_of c.args.self.now) spot t k.1.fine k.1.whole in
    let fit = fits_remaining (limits_of c.args.self.now) spot t k.1.fine k.1.whole in
    let up = rises (limits_of c.args.self.now) spot t k.1.fine k.1.whole in
    let room : has_room (limits_of c.args.self.now).depth (length c.args.self.now.levels.items) (top c.args.self.now).syntax c.in-Whole.header ≡ true =
    ap (λ z. has_room (limits_of c.args.self.now).depth z (top c.args.self.now).syntax c.in-Whole.header) (sym depth-is) ∙ ap (has_room (limits_of c.args.self.now).depth (length (below c.args.self.now)) (top c.args.self.now).syntax) k.1.read ∙ remaining in
    let keeps : fits_wanted (limits_of c.args.self.now).wanted (length c.args.self.now.levels.items) (top c.args.self.now).syntax c.in-Whole.header ≡ true =
    ap (λ z. fits_wanted (limits_of c.args.self.now).wanted z (top c.args.self.now).syntax c.in-Whole.header) (sym depth-is) ∙ ap (fits_wanted (limits_of c.args.self.now).wanted (length (below c.args.self.now)) (top c.args.self.now).syntax) k.1.read ∙ fit in
    (search rules, (k.1.shaped, (c.header_end.ensures.kept ∙ ap (λ z. kept_by z (c.args.self.now.header.items ++ c.args.piece.now)) c.in-Whole.is, (c.requires, (fits, (room, (keeps, (λ m. let lt = up (ap (λ (z : Header). is_marker z.tag) (sym k.1.read) ∙ m) in let n = ap (λ (z : Header). number z.tag) k.1.read in omega (arith, lt, n), λ m holds. ap (λ (z : Header). is_undefined z.length) k.1.read ∙ defined_remaining (limits_of c.args.self.now) spot t k.1.fine k.1.whole (ap (λ (z : Header). is_marker z.tag) (sym k.1.read) ∙ m) holds))))))))

pub returns-in-Whole : goal.returns-in-Whole
returns-in-Whole g c =
    let started = c.len-started.ensures.value in
    let k = end-is g (goal.at.returns-in-Whole g c).After-header_end (ends.Whole c.in-Whole.count c.in-Whole.header c.in-Whole.shape) c.in-Whole.is in
    let size = length-append c.args.self.now.header.items c.args.piece.now in
    let same = c.take_header.ensures.same in
    let offset : c.take_header.new.self.offset ≡ c.args.self.now.offset - c.len-started.result + c.in-Whole.count = ap (λ (z : State). z.offset) c.take_header.ensures.state ∙ take_offset _ (top c.args.self.now) (below c.args.self.now) c.in-Whole.header in
    let w = c.args.self.now in
    let new = c.take_header.new.self in
    let arrives : ArrivesAt (mode_of new.stage new.offset new.header.items) (c.args.self.now.offset - c.len-started.result + c.in-Whole.count) = subst (λ (z : State). ArrivesAt z.mode (c.args.self.now.offset - c.len-started.result + c.in-Whole.count)) (sym c.take_header.ensures.state) (take_arrives (c.args.self.now.offset - c.len-started.result + c.in-Whole.count) (top c.args.self.now) (below c.args.self.now) c.in-Whole.header) in
    record {
      consumed = omega (arith, k.0.some, size, started);
      some = λ some. omega (arith, k.0.more, started);
      state = c.take_header.ensures.state
          ∙ whole_run (limits_of c.args.self.now) (top c.args.self.now) (below c.args.self.now) c.args.self.now.offset c.args.self.now.header.items c.args.piece.now c.args.self.now.behind c.args.self.now.stage c.requires c.len-started.result c.len-started.ensures.value c.in-Whole.count c.in-Whole.header c.in-Whole.shape (end-is g (goal.at.returns-in-Whole g c).After-header_end (ends.Whole c.in-Whole.count c.in-Whole.header c.in-Whole.shape) c.in-Whole.is);
      same = record { syntax = same.syntax; limit = same.limit; wanted = same.wanted };
      values = c.take_header.ensures.values
          ∙ whole_kept (limits_of c.args.self.now) (top c.args.self.now) (below c.args.self.now) c.args.self.now.offset c.args.self.now.header.items c.args.piece.now c.args.self.now.behind c.args.self.now.stage c.requires c.len-started.result c.len-started.ensures.value (kept_values c.args.self.now) c.in-Whole.count c.in-Whole.header c.in-Whole.shape (end-is g (goal.at.returns-in-Whole g c).After-header_end (ends.Whole c.in-Whole.count c.in-Whole.header c.in-Whole.shape) c.in-Whole.is);
      offset = omega (arith, offset, started, k.0.more, c.args.self.now.behind);
      reported = whole_reported (limits_of c.args.self.now) (top c.args.self.now) (below c.args.self.now) c.args.self.now.offset c.args.self.now.header.items c.args.piece.now c.args.self.now.behind c.args.self.now.stage c.requires c.len-started.result c.len-started.ensures.value c.take_header.new.self.stage c.take_header.new.self.offset c.take_header.new.self.header.items c.in-Whole.count c.in-Whole.header c.in-Whole.shape (end-is g (goal.at.returns-in-Whole g c).After-header_end (ends.Whole c.in-Whole.count c.in-Whole.header c.in-Whole.shape) c.in-Whole.is)
          (started_tail (limits_of c.args.self.now) (top c.args.self.now) (below c.args.self.now) c.args.self.now.offset c.args.self.now.header.items c.args.self.now.started) arrives;
    }

-- the header continues

module _ (g : given.Over) (c : After-header_end g) (is : c.header_end.result ≡ ends.Part) where
  part-short : length c.args.self.now.header.items + length c.args.piece.now < 12
  part-short = part_short_of (limits_of c.args.self.now) (top c.args.self.now) (below c.args.self.now) c.args.self.now.offset c.args.self.now.header.items c.args.piece.now c.args.self.now.behind c.args.self.now.stage c.requires c.len-started.result c.len-started.ensures.value (some-piece g c) (end-is g c ends.Part is)

  part-items : c.header_end.new.header.items ≡ c.args.self.now.header.items ++ c.args.piece.now
  part-items = c.header_end.ensures.kept ∙ ap (λ z. kept_by z (c.args.self.now.header.items ++ c.args.piece.now)) is

pub returns-in-Part : goal.returns-in-Part
returns-in-Part g c =
    let b = (goal.at.returns-in-Part g c).After-header_end in
    record {
      consumed = omega arith;
      some = λ some. some;
      state = part_run (limits_of c.args.self.now) (top c.args.self.now) (below c.args.self.now) c.args.self.now.offset c.args.self.now.header.items c.args.piece.now c.args.self.now.behind c.args.self.now.stage c.requires c.len-started.result c.len-started.ensures.value c.header_end.new.header.items (part-items g b c.in-Part.is) (some-piece g b) (end-is g b ends.Part c.in-Part.is);
      same = record { syntax = refl; limit = refl; wanted = refl };
      values = part_kept (limits_of c.args.self.now) (top c.args.self.now) (below c.args.self.now) c.args.self.now.offset c.args.self.now.header.items c.args.piece.now c.args.self.now.behind c.args.self.now.stage c.requires c.len-started.result c.len-started.ensures.value (kept_values c.args.self.now) (some-piece g b) (end-is g b ends.Part c.in-Part.is);
      offset = omega arith;
      reported = part_reported (limits_of c.args.self.now) (top c.args.self.now) (below c.args.self.now) c.args.self.now.offset c.args.self.now.header.items c.args.piece.now c.args.self.now.behind c.args.self.now.stage c.requires c.len-started.result c.len-started.ensures.value c.header_end.new.header.items (part-items g b c.in-Part.is) (some-piece g b) (end-is g b ends.Part c.in-Part.is);
    }

pub invariant_of-self-in-Part : goal.invariant_of-self-in-Part
invariant_of-self-in-Part g c =
    let b = (goal.at.invariant_of-self-in-Part g c).After-header_end in
    let w = c.args.self.now in
    let short = part-short g b c.in-Part.is in
    let items = part-items g b c.in-Part.is in
    let size = length-append w.header.items c.args.piece.now in
    let offset : c.args.self.now.offset + length c.args.piece.now - length (c.args.self.now.header.items ++ c.args.piece.now) ≡ c.args.self.now.offset - length c.args.self.now.header.items = omega (arith, size, w.behind) in
    let quiet = all_quiet (limits_of w) (top w) (below w) w.offset w.header.items c.args.piece.now w.behind w.stage c.requires c.len-started.result c.len-started.ensures.value (some-piece g b) (end-is g b ends.Part c.in-Part.is) in
    record {
      greatest_v = w.greatest_v;
      greatest_d = w.greatest_d;
      no_end = w.no_end;
      elements = w.elements;
      few = rw c.requires (omega (arith, short, ap length (part-items g b c.in-Part.is), length-append c.args.self.now.header.items c.args.piece.now));
      together = omega (arith, short, ap length (part-items g b c.in-Part.is), length-append c.args.self.now.header.items c.args.piece.now, c.args.self.now.kept.short);
      started = ap (is_started (limits_of w) (top w) (below w) (w.offset + length c.args.piece.now)) items
          ∙ quiet_started (limits_of w) (top w) (below w) (w.offset + length c.args.piece.now) (w.header.items ++ c.args.piece.now)
          (subst (λ z. IsQuiet (limits_of c.args.self.now) (spot_of (top c.args.self.now) (below c.args.self.now) z) (c.args.self.now.header.items ++ c.args.piece.now)) (sym offset) quiet);
      behind = omega (arith, ap length (part-items g b c.in-Part.is), length-append c.args.self.now.header.items c.args.piece.now, c.args.self.now.behind);
      due = w.due;
      small = w.small;
      within = rw c.requires (omega (arith, ap length (part-items g b c.in-Part.is), length-append c.args.self.now.header.items c.args.piece.now, c.args.self.now.behind, ap (λ z. spare z (length c.args.self.now.header.items)) c.requires, ap owed c.requires, c.args.self.now.within));
      flag = w.flag;
      room = w.room;
      order = w.order;
    }
