use Rattle.object_body.proofs.laws.a_body_keeps_a_store_sound.Goals as goal

pub returns : goal.returns
returns g c = g.met.B.Body.keeps_soundness
