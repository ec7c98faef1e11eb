-- The test of two events for equality holds of equal events alone; so does that of a sent event and a tick.
use mathlib.Core.Path.{◌≡◌, ap}
use mathlib.Core.Bool.{◌&&◌}
use lib.Dec.{T, eqb→eq, eqb_refl}
use lib.IntN.{pos, negsuc}
use Rattle.model.specs.Events.{Event, tick, sent, same_event}
use Rattle.model.proofs.Bools.{and_both}

pub same_event_eq : (x y : Event) → T (same_event x y) → x ≡ y
same_event_eq (pos m) (pos n) t = ap pos (eqb→eq m n t)
same_event_eq (negsuc m) (negsuc n) t = ap negsuc (eqb→eq m n t)
same_event_eq (pos m) (negsuc n) t = absurd t
same_event_eq (negsuc m) (pos n) t = absurd t

pub same_event_refl : (x : Event) → T (same_event x x)
same_event_refl (pos n) = eqb_refl n
same_event_refl (negsuc n) = eqb_refl n

-- the first is sent, and the second is the tick
pub sent_and_tick : (x y : Event) → T (sent x && same_event y tick) → T (sent x) × (y ≡ tick)
sent_and_tick x y t = let b = and_both (sent x) (same_event y tick) t in (b.0, same_event_eq y tick b.1)
