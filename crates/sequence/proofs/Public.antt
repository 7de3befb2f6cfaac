-- What the crates above cite of this crate's lemmas: laws of `sequence::laws`, which are their contracts, in the words of the
-- definitions alone.
use Rattle.std.proofs.Common.{[]}
use Rattle.sequence.specs.Ending.{WholeBreaksNoRule}
use Rattle.sequence.specs.Examples.{PastItsItem, TooDeep, UnknownContent, OneStore}
use Rattle.sequence.specs.Laws.{FaultStays, RefusalStays, RefusedStands, OneTree, OnePath, OneFault, SomeTelling, HeldHasABound, NothingIsUnbroken, NoHeader, LeastHeader, BytesAreJoined, NativeInside, NativeHasNone}
use Rattle.sequence.specs.machine.Machine.{run}
use Rattle.sequence.proofs.MachineStands.HeaderDue as arriving
use Rattle.sequence.proofs.HeldIsBounded as bounds
use Rattle.sequence.proofs.WorkedTexts as examples
use Rattle.sequence.proofs.NativeData as native
use Rattle.sequence.proofs.OneReading.OneTree as once
use Rattle.sequence.proofs.CodeIsMachine.WhereRulesBreak as quiet
use Rattle.sequence.proofs.StepsStand.RefusedStands as refused
use Rattle.sequence.proofs.StepsStand.FaultStays as staying
use Rattle.sequence.proofs.StepsStand.StepConsumes as stepping
use Rattle.sequence.proofs.MachineReports.AnyText as tales
use Rattle.sequence.proofs.OneReading.OneReport as tellings
use Rattle.sequence.proofs.WholeDataSet.WholeHasNoFault as whole

-- ---- data sets and their fronts

pub one_tree : OneTree
one_tree = once.one_tree

pub one_path : OnePath
one_path = once.one_path

pub no_header : NoHeader
no_header = arriving.no_header

pub need_least : LeastHeader
need_least = quiet.need_least

pub native_inside : NativeInside
native_inside = native.native_inner

pub native_holds : NativeHasNone
native_holds = native.native_holds

pub both_bytes : BytesAreJoined
both_bytes = stepping.both_bytes

-- ---- faults

pub one_fault : OneFault
one_fault = tellings.one_fault

pub fault_stays : FaultStays
fault_stays = staying.fault_stays

pub nothing_unbroken : NothingIsUnbroken
unfolding run
nothing_unbroken s lim = tales.goes_unbroken s lim [] (λ k. k)

pub whole_breaks_no_rule : WholeBreaksNoRule
whole_breaks_no_rule = whole.whole_breaks_no_rule

-- ---- reports

pub some_telling : SomeTelling
some_telling = tellings.some_telling

pub held_has_a_bound : HeldHasABound
held_has_a_bound = bounds.held_has_a_bound

pub refusal_stays : RefusalStays
refusal_stays = staying.refusal_stays

pub refused_stands : RefusedStands
refused_stands = refused.refused_stands

-- ---- worked texts

pub past_its_item : PastItsItem
past_its_item = examples.a_header_past_its_item

pub too_deep : TooDeep
too_deep = examples.deeper_than_the_limit

pub unknown_content : UnknownContent
unknown_content = examples.unknown_content

pub one_store : OneStore
one_store = examples.one_store_reported
