use Rattle.std.proofs.Common.{◌≡◌, ◌∙◌, length, false, ap, sym, arith, rules}
use Rattle.arrayvec.specs.ArrayVec.{array_vec_len}
use Rattle.element.specs.Header.{is_marker}
use Rattle.sequence.specs.declared.level.Scope.{Scope}
use Rattle.sequence.specs.Coding.{has_fragments}
use Rattle.sequence.specs.Shape.{shape}
use Rattle.sequence.specs.Stored.{wants_of}
use Rattle.sequence.proofs.MachineStands.HeaderConsumed.{value_counts}
use Rattle.sequence.specs.machine.Scopes.{top_of}
use Rattle.sequence.specs.machine.State.{top, below, limits_of, kept_values}
use Rattle.sequence.proofs.CodeIsMachine.StateAfterCall.{top_none, fits_room, item_header, mark_header, value_header, sequence_header, no_header, keep_marker, keep_value, keep_sequence, keep_none}
use Rattle.sequence.proofs.walker.Walker.take_header.Goals as goal

pub returns-then-same_tag : goal.returns-then-same_tag
returns-then-same_tag g c =
    record {
      state = c.take_item.ensures.state ∙ item_header c.args.self.now.offset (top c.args.self.now) (below c.args.self.now) c.args.header.now (sym c.is_marker.ensures ∙ c.if-is_marker.true) (sym c.same_tag.ensures ∙ c.if-same_tag.true);
      same = c.take_item.ensures.same;
      values = c.take_item.ensures.values ∙ keep_marker (limits_of c.args.self.now) (top c.args.self.now) (below c.args.self.now) c.args.header.now (kept_values c.args.self.now) (sym c.is_marker.ensures ∙ c.if-is_marker.true);
    }

pub returns-else-same_tag : goal.returns-else-same_tag
returns-else-same_tag g c =
    record {
      state = c.leave.ensures.state ∙ mark_header c.args.self.now.offset (top c.args.self.now) (below c.args.self.now) c.args.header.now (sym c.is_marker.ensures ∙ c.if-is_marker.true) (sym c.same_tag.ensures ∙ c.if-same_tag.false);
      same = c.leave.ensures.same;
      values = c.leave.ensures.values ∙ keep_marker (limits_of c.args.self.now) (top c.args.self.now) (below c.args.self.now) c.args.header.now (kept_values c.args.self.now) (sym c.is_marker.ensures ∙ c.if-is_marker.true);
    }

pub returns-in-Value : goal.returns-in-Value
returns-in-Value g c =
    record {
      state = c.begin_value.ensures.state ∙ value_header c.args.self.now.offset (top c.args.self.now) (below c.args.self.now) c.args.header.now c.top_scope-top.result _ _ (sym c.is_marker.ensures ∙ c.if-is_marker.false) (sym c.in-Value.is ∙ c.requires.shape ∙ ap (λ (z : Scope). shape z.syntax c.args.header.now) (sym (c.top_scope-top.ensures ∙ ap (top_of c.args.self.now.root) c.as_slice.ensures.value)))
          (c.top_scope-top.ensures ∙ ap (top_of c.args.self.now.root) c.as_slice.ensures.value) c.set_last.ensures.top c.set_last.ensures.below;
      same = record { syntax = c.begin_value.ensures.same.syntax ∙ c.set_last.ensures.syntax; limit = c.begin_value.ensures.same.limit; wanted = c.begin_value.ensures.same.wanted };
      values = c.begin_value.ensures.values ∙ keep_value (limits_of c.args.self.now) (top c.args.self.now) (below c.args.self.now) c.args.header.now c.top_scope-top.result _ (kept_values c.args.self.now) (sym c.is_marker.ensures ∙ c.if-is_marker.false) (sym c.in-Value.is ∙ c.requires.shape ∙ ap (λ (z : Scope). shape z.syntax c.args.header.now) (sym (c.top_scope-top.ensures ∙ ap (top_of c.args.self.now.root) c.as_slice.ensures.value))) (c.top_scope-top.ensures ∙ ap (top_of c.args.self.now.root) c.as_slice.ensures.value) c.set_last.ensures.below;
    }

pub returns-in-Sequence : goal.returns-in-Sequence
returns-in-Sequence g c =
    record {
      state = c.begin_level.ensures.state ∙ sequence_header c.args.self.now.offset (top c.args.self.now) (below c.args.self.now) c.args.header.now c.top_scope-top.result _ c.sequence_scope.result _ c.in-Sequence.inner (sym c.is_marker.ensures ∙ c.if-is_marker.false) (sym c.in-Sequence.is ∙ c.requires.shape ∙ ap (λ (z : Scope). shape z.syntax c.args.header.now) (sym (c.top_scope-top.ensures ∙ ap (top_of c.args.self.now.root) c.as_slice.ensures.value)))
          (c.top_scope-top.ensures ∙ ap (top_of c.args.self.now.root) c.as_slice.ensures.value) c.set_last-in-Sequence.ensures.top c.set_last-in-Sequence.ensures.below c.sequence_scope.ensures.scope;
      same = record { syntax = c.begin_level.ensures.same.syntax ∙ c.set_last-in-Sequence.ensures.syntax; limit = c.begin_level.ensures.same.limit; wanted = c.begin_level.ensures.same.wanted };
      values = c.begin_level.ensures.values ∙ keep_sequence (limits_of c.args.self.now) (top c.args.self.now) (below c.args.self.now) c.args.header.now c.top_scope-top.result c.in-Sequence.inner (kept_values c.args.self.now) (sym c.is_marker.ensures ∙ c.if-is_marker.false) (sym c.in-Sequence.is ∙ c.requires.shape ∙ ap (λ (z : Scope). shape z.syntax c.args.header.now) (sym (c.top_scope-top.ensures ∙ ap (top_of c.args.self.now.root) c.as_slice.ensures.value))) (c.top_scope-top.ensures ∙ ap (top_of c.args.self.now.root) c.as_slice.ensures.value);
    }

pub returns-in-NotAllowed : goal.returns-in-NotAllowed
returns-in-NotAllowed g c =
    record {
      state = c.arrive.ensures.state ∙ no_header c.args.self.now.offset (top c.args.self.now) (below c.args.self.now) c.args.header.now c.top_scope-top.result (sym c.is_marker.ensures ∙ c.if-is_marker.false) (sym c.in-NotAllowed.is ∙ c.requires.shape ∙ ap (λ (z : Scope). shape z.syntax c.args.header.now) (sym (c.top_scope-top.ensures ∙ ap (top_of c.args.self.now.root) c.as_slice.ensures.value)))
          (c.top_scope-top.ensures ∙ ap (top_of c.args.self.now.root) c.as_slice.ensures.value);
      same = c.arrive.ensures.same;
      values = c.arrive.ensures.values ∙ keep_none (limits_of c.args.self.now) (top c.args.self.now) (below c.args.self.now) c.args.header.now c.top_scope-top.result (kept_values c.args.self.now) (sym c.is_marker.ensures ∙ c.if-is_marker.false) (sym c.in-NotAllowed.is ∙ c.requires.shape ∙ ap (λ (z : Scope). shape z.syntax c.args.header.now) (sym (c.top_scope-top.ensures ∙ ap (top_of c.args.self.now.root) c.as_slice.ensures.value))) (c.top_scope-top.ensures ∙ ap (top_of c.args.self.now.root) c.as_slice.ensures.value);
    }

pub invariant_of-self-in-Sequence-clause-elements : goal.invariant_of-self-in-Sequence-clause-elements
invariant_of-self-in-Sequence-clause-elements g c = ap has_fragments c.set_last-in-Sequence.ensures.syntax ∙ c.args.self.now.elements

pub begin_value-requires : goal.begin_value-requires
begin_value-requires g c =
    let w = c.args.self.now in
    let sh = sym c.in-Value.is ∙ c.requires.shape in
    let marker : is_marker c.args.header.now.tag ≡ false = sym c.is_marker.ensures ∙ c.if-is_marker.false in
    let counts = value_counts (top w).syntax c.args.header.now sh in
    let same : array_vec_len c.set_last.new.levels ≡ array_vec_len w.levels = c.set_last.ensures.len in (
      search rules,
      (
        omega (arith, c.requires.offset, counts),
        (
          c.requires.header,
          (
            c.requires.stage,
            (
              λ none.
                  let root = ap (λ (z : Scope). z.last) (top_none w.root w.levels.items (sym same ∙ none)) in omega (arith, c.requires.rising marker, root, w.order),
              (
                λ none. omega (arith, c.set_last.ensures.last (sym same ∙ none)),
                λ room none wanted. fits_room (wants_of w.kept) (length w.levels.items) (top w).syntax c.args.header.now room c.requires.fit (sym same ∙ none) marker sh wanted,
              ),
            ),
          ),
        ),
      ),
    )
