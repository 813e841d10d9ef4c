use Rattle.finder.specs.Finder.{written_outcome}
use Rattle.finder.proofs.Calls.{counted_written}
use mathlib.Core.Path.{◌∙◌, ap}
use Rattle.finder.proofs.yeldaski_write_refusal.Goals as goal

pub returns : goal.returns
returns c = record { answer = c.counted.ensures ∙ counted_written _ ∙ ap written_outcome c.write_refusal.ensures.answer; list = c.write_refusal.ensures.list }
