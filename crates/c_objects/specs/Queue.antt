-- Where the texts of waiting requests are: in the room that they share, one after another, or in memory of their own.
use Rattle.std.specs.Prelude.{◌≡◌, ◌+◌, ◌++◌, ◌∷◌, ℕ, List, [], length, take, drop}
use Rattle.c_objects.specs.Requests.{RequestView}
use Rattle.c_objects.specs.declared.queue.Request.{Request}
use Rattle.c_objects.specs.declared.queue.Text.{Text}
use Rattle.c_objects.specs.declared.queue.Text.TheVariants.{Shared, Own}

-- the text, if the shared room begins with it
abbrev pub text_in : List ℕ → Text → List ℕ
text_in room (Shared n) = take n room
text_in room (Own bytes) = bytes.items

-- the shared room after the text
abbrev pub room_behind : List ℕ → Text → List ℕ
room_behind room (Shared n) = drop n room
room_behind room (Own bytes) = room

-- how much of the shared room the text takes
abbrev pub shared_len : Text → ℕ
shared_len (Shared n) = n
shared_len (Own bytes) = 0

-- how much of it all these requests take
abbrev pub all_shared : List Request → ℕ
all_shared [] = 0
all_shared (r ∷ rs) = shared_len r.text + all_shared rs

abbrev pub request_in : List ℕ → Request → RequestView
request_in room r = record {
  kind = r.kind;
  rows = r.rows;
  cols = r.cols;
  letters = r.letters;
  text = text_in room r.text;
}

-- requests whose texts lie in this room
abbrev pub requests_in : List ℕ → List Request → List RequestView
requests_in room [] = []
requests_in room (r ∷ rs) = request_in room r ∷ requests_in (room_behind room r.text) rs

-- the text is at the end of the room, or in memory of its own
abbrev pub IsPlaced : List ℕ → List ℕ → Text → List ℕ → Type 0
IsPlaced old text (Shared n) new = (n ≡ length text) × (new ≡ old ++ text)
IsPlaced old text (Own bytes) new = (bytes.items ≡ text) × (new ≡ old)

-- the part of a text that shows whether it is too long for a request
abbrev pub drafted : List ℕ → List ℕ
drafted text = take 1022 text
