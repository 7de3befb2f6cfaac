use Rattle.std.proofs.Common.{◌∙◌, sym, subst}
use Rattle.sequence.specs.Ending.{Fails}
use Rattle.sequence.specs.Consumed.{walker_syntax, limits_of}
use Rattle.sequence.proofs.MachineReports.HeldIsState.{walks}
use Rattle.sequence.proofs.WholeDataSet.FinishIsExact.{stopped_fails, reading_fails, between_ok, between_fails}
use Rattle.sequence.proofs.WholeDataSet.WholeHasNoFault.{whole_has_no_fault}
use Rattle.sequence.proofs.walker.Walker.finish.Goals as goal

pub returns-in-Stopped-clause-fails : goal.returns-in-Stopped-clause-fails
returns-in-Stopped-clause-fails g c b h = stopped_fails c.args.self.now b (walks c.args.self.now b h) c.in-Stopped.fault c.in-Stopped.is

pub returns-in-Stopped-clause-exactly : goal.returns-in-Stopped-clause-exactly
returns-in-Stopped-clause-exactly g c b h whole = absurd (whole_has_no_fault _ _ b _ whole (stopped_fails c.args.self.now b (walks c.args.self.now b h) c.in-Stopped.fault c.in-Stopped.is))

pub returns-in-Value-clause-fails : goal.returns-in-Value-clause-fails
returns-in-Value-clause-fails g c b h =
    subst (Fails (walker_syntax c.args.self.now) (limits_of c.args.self.now) b) (sym c.new.ensures) (reading_fails c.args.self.now b (walks c.args.self.now b h) c.in-Value.tag c.in-Value.remaining c.in-Value.kept c.in-Value.is)

pub returns-in-Value-clause-exactly : goal.returns-in-Value-clause-exactly
returns-in-Value-clause-exactly g c b h whole = absurd (whole_has_no_fault _ _ b _ whole (subst (Fails (walker_syntax c.args.self.now) (limits_of c.args.self.now) b) (sym c.new.ensures) (reading_fails c.args.self.now b (walks c.args.self.now b h) c.in-Value.tag c.in-Value.remaining c.in-Value.kept c.in-Value.is)))

pub returns-then-is_between-clause-whole : goal.returns-then-is_between-clause-whole
returns-then-is_between-clause-whole g c e b h = between_ok c.args.self.now b (walks c.args.self.now b h) c.in-Heading.is (sym c.is_between.ensures ∙ c.if-is_between.true)

pub returns-else-is_between-clause-fails : goal.returns-else-is_between-clause-fails
returns-else-is_between-clause-fails g c b h =
    subst (Fails (walker_syntax c.args.self.now) (limits_of c.args.self.now) b) (sym c.new-else-is_between.ensures) (between_fails c.args.self.now b (walks c.args.self.now b h) c.started_tag-tag.result c.as_slice.result.now c.in-Heading.is (sym c.is_between.ensures ∙ c.if-is_between.false) c.as_slice.ensures.value c.started_tag-tag.ensures)

pub returns-else-is_between-clause-exactly : goal.returns-else-is_between-clause-exactly
returns-else-is_between-clause-exactly g c b h whole =
    absurd (whole_has_no_fault _ _ b _ whole (subst (Fails (walker_syntax c.args.self.now) (limits_of c.args.self.now) b) (sym c.new-else-is_between.ensures) (between_fails c.args.self.now b (walks c.args.self.now b h) c.started_tag-tag.result c.as_slice.result.now c.in-Heading.is (sym c.is_between.ensures ∙ c.if-is_between.false) c.as_slice.ensures.value c.started_tag-tag.ensures)))
