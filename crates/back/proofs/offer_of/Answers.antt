use Rattle.std.proofs.Common.{sym, ◌∙◌, arith}
use Rattle.labels.specs.Boundary.{leads_from_used}
use Rattle.back.proofs.Ends.{sound}
use Rattle.back.proofs.offer_of.Goals as goal

pub list_at-f-requires : goal.list_at-f-requires
list_at-f-requires c = let u = leads_from_used _ _ c.args.e _ _ (sym c.leads.ensures ∙ c.if-not-leads.false) in (c.requires.0.small, (c.requires.0.place, (omega arith, omega arith)))

pub least_before-requires-clause-limits : goal.least_before-requires-clause-limits
least_before-requires-clause-limits c = let u = leads_from_used _ _ c.args.e _ _ (sym c.leads.ensures ∙ c.if-not-leads.false) in
    (c.requires.0.bounds, sound c.requires.0 _ _ (omega arith) c.requires.1.from _ c.list_at-f.ensures)
