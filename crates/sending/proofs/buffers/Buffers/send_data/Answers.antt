use Rattle.std.proofs.Common.{rules, ◌≡◌, ◌≤◌, ◌∙◌, ◌+◌, ◌-◌, nat_eq, false, length, take, drop, sym, arith, subst}
use Rattle.std.proofs.lemmas.Bool.Decides.{nat_tests}
use Rattle.sending.proofs.DataInFragments.{next_sent, last_sent}
use Rattle.sending.proofs.BufferHasFragment.{read_pdu, read_after, after_heads}
use Rattle.sending.proofs.buffers.Buffers.send_data.Goals as goal
use borrow.Rule.Slice.PartMut.{put_mid, same_len_mid}

pub returns-then-count-eq0-clause-sent : goal.returns-then-count-eq0-clause-sent
returns-then-count-eq0-clause-sent g c =
    let pdu = after_heads 12 c.loop-turn.start c.loop-turn.end c.loop-turn.self.first c.loop-turn.invariant.headed c.loop-turn.invariant.ordered in
    last_sent _ _ _ _ _ _ _ _ _ c.loop-turn.invariant.sending (rw c.if-count-eq0.true at c.in_ok-count.ensures.read) (rw (c.if-count-eq0.true, pdu) at c.in_ok-send_fragment.ensures.sent)

pub returns-then-next-eq0-clause-sent : goal.returns-then-next-eq0-clause-sent
returns-then-next-eq0-clause-sent g c =
    let room = c.read_next.new.room in
    let count = c.in_ok-count.count in
    let filled = put_mid 12 (12 + c.args.route.size - 12) c.loop-turn.self.second room in
    let more : nat_eq count 0 ≡ false = grind (arith, nat_tests, c.if-count-eq0.false) in
    let headed : 12 ≤ length c.loop-turn.self.second = search rules in
    let pdu = after_heads 12 c.loop-turn.start c.loop-turn.end c.loop-turn.self.first c.loop-turn.invariant.headed c.loop-turn.invariant.ordered in
    let next : drop 12 (take (12 + count) filled) ≡ take count room = read_pdu 12 (12 + c.args.route.size - 12) count c.loop-turn.self.second room headed c.in_ok-count.ensures.within in
    let sent = next_sent _ _ _ _ _ _ _ (take count room) _ _ c.loop-turn.invariant.sending c.in_ok-count.ensures.read (rw (more, pdu) at c.in_ok-send_fragment.ensures.sent) in
    last_sent _ _ _ _ _ _ _ _ _ sent (rw c.if-next-eq0.true at c.in_ok-next.ensures.read) (rw (c.if-next-eq0.true, next) at c.in_ok-send_fragment-2.ensures.sent)

pub loop-turn-preserved : goal.loop-turn-preserved
loop-turn-preserved g c =
    let room = c.read_next.new.room in
    let count = c.in_ok-count.count in
    let filled = put_mid 12 (12 + c.args.route.size - 12) c.loop-turn.self.second room in
    let before = put_mid (c.loop-turn.start - 12) (c.loop-turn.end - (c.loop-turn.start - 12)) c.loop-turn.self.first c.send_fragment.new.pdu in
    let more : nat_eq count 0 ≡ false = grind (arith, nat_tests, c.if-count-eq0.false) in
    let again : nat_eq c.in_ok-next.next 0 ≡ false = grind (arith, nat_tests, c.if-next-eq0.false) in
    let headed : 12 ≤ length c.loop-turn.self.second = search rules in
    let first : 12 ≤ length c.loop-turn.self.first = search rules in
    let kept : length before ≡ length c.loop-turn.self.first = same_len_mid (c.loop-turn.start - 12) (c.loop-turn.end - (c.loop-turn.start - 12)) c.loop-turn.self.first c.send_fragment.new.pdu c.in_ok-send_fragment.ensures.size in
    let pdu = after_heads 12 c.loop-turn.start c.loop-turn.end c.loop-turn.self.first c.loop-turn.invariant.headed c.loop-turn.invariant.ordered in
    let next : drop 12 (take (12 + count) filled) ≡ take count room = read_pdu 12 (12 + c.args.route.size - 12) count c.loop-turn.self.second room headed c.in_ok-count.ensures.within in
    let sent = next_sent _ _ _ _ _ _ _ (take count room) _ _ c.loop-turn.invariant.sending c.in_ok-count.ensures.read (rw (more, pdu) at c.in_ok-send_fragment.ensures.sent) in
    let pending = read_after 12 (12 + c.args.route.size - 12) c.in_ok-next.next before c.read_next-in-loop-turn.new.room (subst (λ n. 12 ≤ n) (sym kept) first) c.in_ok-next.ensures.within in
    record {
      headed = omega arith;
      ordered = omega arith;
      fits = search rules;
      same = c.in_ok-send_fragment-2.ensures.same ∙ c.in_ok-send_fragment.ensures.same ∙ c.loop-turn.invariant.same;
      sending = rw pending (next_sent _ _ _ _ _ _ _ (take c.in_ok-next.next c.read_next-in-loop-turn.new.room) _ _ sent c.in_ok-next.ensures.read (rw (again, next) at c.in_ok-send_fragment-2.ensures.sent));
    }
