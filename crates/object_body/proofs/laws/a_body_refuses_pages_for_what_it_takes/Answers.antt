use Rattle.object_body.proofs.laws.a_body_refuses_pages_for_what_it_takes.Goals as goal

pub returns : goal.returns
returns g c = g.met.B.Body.refuses_taken
