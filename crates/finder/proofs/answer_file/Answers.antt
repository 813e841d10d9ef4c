use mathlib.Core.Path.{refl}
use Rattle.finder.proofs.Program.{program_answer}
use borrow.Author.Rules.{rules}
use Rattle.finder.proofs.answer_file.Goals as goal

pub returns : goal.returns
returns c = let p = program_answer _ _ _ _ _ _ _ _ _ c.yeldaski_segment-answer.ensures.answer c.yeldaski_segment-answer.ensures.bytes c.yeldaski_segment-answer.ensures.list c.yeldaski_segment-answer.auto.runs refl refl refl refl (search rules) in record { answer = p.0; bytes = p.1 }
