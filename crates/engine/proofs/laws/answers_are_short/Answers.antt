use Rattle.engine.proofs.Public.{answers_are_short, stories_answer_shortly, output_of_a_piece}
use Rattle.engine.proofs.laws.answers_are_short.Goals as goal

pub returns-clause-entry : goal.returns-clause-entry
returns-clause-entry c = answers_are_short

pub returns-clause-story : goal.returns-clause-story
returns-clause-story c = stories_answer_shortly

pub returns-clause-piece : goal.returns-clause-piece
returns-clause-piece c = output_of_a_piece
