-- The ends at one object, as its annals have them: each with the acts on that object alone.
use Rattle.std.specs.Prelude.{◌≡◌, ℕ, ◌<◌, List, [], ◌∷◌, if◌then◌else◌}
use Rattle.eos_ops.specs.declared.end.End.{End}
use Rattle.eos_ops.specs.declared.plain.Plain.{Plain}
use Rattle.history.specs.Serial.{RightAt, replayed}

-- the object after an end: as its acts leave it where it is committed
abbrev pub after_entry : Plain → End → Plain
after_entry x e = if e.committed then replayed x e.acts else x

-- The acts of each entry have the replies that the object gives after the committed entries
-- before it, and the object goes from x to y.
abbrev pub Replays : Plain → List End → Plain → Type 0
Replays x [] y = y ≡ x
Replays x (e ∷ ends) y = RightAt x e.acts × Replays (after_entry x e) ends y

-- each stamp is above `low` and above those before it
abbrev pub Rises : ℕ → List End → Type 0
Rises low [] = Unit {0}
Rises low (e ∷ ends) = (low < e.stamp) × Rises e.stamp ends

-- the annals of an object that was x at first and is y now
pub record IsLegal (x : Plain) (ends : List End) (y : Plain) : Type 0 where
  pub stamps : Rises 0 ends
  pub replays : Replays x ends y
