use Rattle.machine.proofs.Bare.{refused-bare, Owes-bare, next-bare}
use Rattle.machine.proofs.law.contents_decide_nothing_owed.Goals as goal

pub returns : goal.returns
returns c = record { refusal = refused-bare; owes = Owes-bare; moves = next-bare }
