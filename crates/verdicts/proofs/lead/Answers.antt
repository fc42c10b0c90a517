use Rattle.verdicts.proofs.Taking.{led_found, led_none}
use Rattle.verdicts.proofs.lead.Goals as goal

-- `verdicts::lead` meets its contract.
pub returns-in-Some : goal.returns-in-Some
returns-in-Some c = led_found c.requires c.minus.result c.minus.ensures c.in-Some.pair c.join.result c.in-Some.ensures c.join.ensures

pub returns-in-None : goal.returns-in-None
returns-in-None c = led_none c.requires c.minus.result c.minus.ensures c.in-None.ensures
