-- Examples: numbers of films.
use Rattle.std.specs.Prelude.{◌≡◌, ◌*◌, ◌/◌, List, [], ◌∷◌, None, Some, codes, true, false}
use Rattle.recordings.specs.declared.recording.Change.{Change}
use Rattle.recordings.specs.declared.recording.Event.{Event}
use Rattle.recorded_screen.specs.Film.{film_time, is_moment, may_stand, slot_start}
use Rattle.recorded_screen.specs.Reel.{decimal_point, place}
use Rattle.recorded_screen.specs.declared.films.Pace.{Pace}

-- two events at the same time, and one two seconds later
abbrev pub three_events : Change → List Event
three_events change =
    record { time = 0; change = change } ∷ record { time = 0; change = change }
    ∷ record { time = 2000000; change = change } ∷ []

-- the recorded speed, and at most ten screens a second
abbrev pub ten_a_second : Pace
ten_a_second = record { speed = 1000000; idle = None; rate = 10; plays = None; from = 0; poster = None }

-- events after 50, 90 and 100 thousandths of a second
abbrev pub close_events : Change → List Event
close_events change =
    record { time = 50000; change = change } ∷ record { time = 90000; change = change }
    ∷ record { time = 100000; change = change } ∷ []

pub record EachExampleHolds : Type 0 where
  -- a third of a film, in percent
  pub third : decimal_point 5 (1000000 * 10000000 / 3000000) ≡ codes "33.33333"
  -- three quarters of a second
  pub seconds : decimal_point 6 750000 ≡ codes "0.750000"
  -- the fifth place of a track of 80 columns
  pub fifth : place 80 4 ≡ 2880
  -- no screen is shown between two events at the same time
  pub between : (change : Change) → is_moment (three_events change) 1 ≡ false
  pub behind : (change : Change) → is_moment (three_events change) 2 ≡ true
  -- at twice the speed, where no screen stays for more than a second and a half
  pub faster : (change : Change)
      → film_time (record { speed = 2000000; idle = Some 1500000; rate = 30; plays = None; from = 0; poster = None })
      (three_events change) 3 ≡ 750000
  -- At 10 screens a second, events after 0.05 s, 0.09 s and 0.1 s are in two slots. So the first screen isn't shown,
  -- nor is the one after the first event; that after the second is shown from the beginning of its slot on.
  pub empty : (change : Change) → may_stand ten_a_second (close_events change) 0 ≡ false
  pub early : (change : Change) → may_stand ten_a_second (close_events change) 1 ≡ false
  pub latest : (change : Change) → may_stand ten_a_second (close_events change) 2 ≡ true
  pub start : (change : Change) → slot_start ten_a_second (film_time ten_a_second (close_events change) 2) ≡ 0
  pub next : (change : Change) → slot_start ten_a_second (film_time ten_a_second (close_events change) 3) ≡ 100000
  -- thirty screens a second: the fourth begins after a tenth of one
  pub fourth : slot_start
      (record { speed = 1000000; idle = None; rate = 30; plays = None; from = 0; poster = None }) 125000 ≡ 100000
  -- from half a second on: what came before is there at 0, and an event after two seconds comes after one and a half
  pub later : (change : Change)
      → film_time (record { speed = 1000000; idle = None; rate = 30; plays = None; from = 500000; poster = None })
      (three_events change) 3 ≡ 1500000
