-- What the crates above cite of this crate's lemmas: the laws of `engine::laws`, which are their contracts, in the words of
-- the definitions alone.
use Rattle.engine.specs.AbortLaws.{EntriesAbort, StoriesAbort}
use Rattle.engine.specs.TurnLaws.{TurnsBegin, OneTurnMore, TurnsAreARun, EndedHasNoDraft}
use Rattle.engine.specs.OutputLaws.{FewMarks, BoundedOutput, FewBytesButAnswers, AnswersAreShort, StoriesAnswerShortly, OutputOfAPiece, EntriesOfMore, SilentSendsNothing, AbortsShortly}
use Rattle.engine.specs.Parts.{FewerKeepTheDecision}
use Rattle.engine.proofs.AlongTimelines.AbortsAreSent as aborts
use Rattle.engine.proofs.OutputIsBounded.OutputOfAPiece as output
use Rattle.engine.proofs.OutputIsBounded.OutputOfAPortion as portions
use Rattle.engine.proofs.PartsEnd.FewerDecideNothing as fewer
use Rattle.engine.proofs.WholeRun.OneTurnMore as ran

pub turns_begin : TurnsBegin
turns_begin = ran.turns_begin

pub one_turn_more : OneTurnMore
one_turn_more = ran.one_turn_more

pub turns_are_a_run : TurnsAreARun
turns_are_a_run = ran.turns_are_a_run

pub ended_has_no_draft : EndedHasNoDraft
ended_has_no_draft = ran.ended_has_no_draft

pub few_marks : FewMarks
few_marks = output.few_marks

pub bounded_output : BoundedOutput
bounded_output = output.bounded_output

pub few_bytes_but_answers : FewBytesButAnswers
few_bytes_but_answers = output.few_bytes_but_answers

pub answers_are_short : AnswersAreShort
answers_are_short = output.answers_are_short

pub stories_answer_shortly : StoriesAnswerShortly
stories_answer_shortly = output.stories_answer_shortly

pub output_of_a_piece : OutputOfAPiece
output_of_a_piece = output.output_of_a_piece

pub entries_of_more : EntriesOfMore
entries_of_more = portions.entries_of_more

pub silent_sends_nothing : SilentSendsNothing
silent_sends_nothing = portions.silent_sends_nothing

pub aborts_shortly : AbortsShortly
aborts_shortly = portions.aborts_shortly

pub fewer_keep_the_decision : FewerKeepTheDecision
fewer_keep_the_decision = fewer.fewer_keep_the_decision

pub entries_abort : EntriesAbort
entries_abort = aborts.entries_abort

pub stories_abort : StoriesAbort
stories_abort = aborts.stories_abort
