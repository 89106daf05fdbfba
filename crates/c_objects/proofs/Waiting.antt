-- Requests whose texts share a room.
use Rattle.std.proofs.Common.{◌≡◌, ◌∙◌, ℕ, ◌+◌, ◌<◌, ◌≤◌, List, ◌++◌, ◌∷◌, [], length, take}
use Rattle.std.proofs.Common.{ap, sym, arith, refl, subst, append-nil, inl, inr}
use Rattle.std.proofs.lemmas.List.{take_all, take-append-le, length-take, length-drop}
use Rattle.std.proofs.lemmas.List.Sums.{sum_by-cons}
use Rattle.std.proofs.lemmas.Grind.{common_steps}
use Rattle.c_objects.specs.Requests.{RequestView, text_bytes, HasNoPlace}
use Rattle.c_objects.specs.Queue.{text_in, room_behind, shared_len, all_shared, request_in, requests_in, IsPlaced}
use Rattle.c_objects.specs.declared.queue.Request.{Request}
use Rattle.c_objects.specs.declared.queue.Text.{Text}
use Rattle.c_objects.specs.declared.queue.Text.TheVariants.{Shared, Own}

text-same : (t : Text) (room more : List ℕ) → shared_len t ≤ length room → text_in (room ++ more) t ≡ text_in room t
text-same (Shared n) room more h = take-append-le n room more h
text-same (Own bytes) room more h = refl

room-same : (t : Text) (room more : List ℕ) → shared_len t ≤ length room
    → room_behind (room ++ more) t ≡ room_behind room t ++ more
room-same (Shared n) room more h = grind (arith, common_steps, h)
room-same (Own bytes) room more h = refl

room-left : (t : Text) (room : List ℕ) → shared_len t ≤ length room
    → shared_len t + length (room_behind room t) ≡ length room
room-left (Shared n) room h = grind (arith, common_steps, h, length-drop)
room-left (Own bytes) room h = omega arith

text-long : (t : Text) (room : List ℕ) → shared_len t ≤ length room → shared_len t ≤ length (text_in room t)
text-long (Shared n) room h = grind (arith, common_steps, h, length-take)
text-long (Own bytes) room h = omega arith

-- a request is appended to those whose texts fill the shared room
behind-all : (rs : List Request) (r : Request) (room more : List ℕ) → all_shared rs ≡ length room
    → requests_in (room ++ more) (rs ++ r ∷ []) ≡ requests_in room rs ++ request_in more r ∷ []
behind-all [] r [] more e = refl
behind-all [] r (b ∷ room) more e = grind (arith, e)
behind-all (q ∷ qs) r room more e =
    let fits : shared_len q.text ≤ length room = omega (arith, e) in
    let rest : all_shared qs ≡ length (room_behind room q.text) = omega (arith, e, room-left q.text room fits) in
    ap (λ (b : List ℕ). record {
      kind = q.kind;
      rows = q.rows;
      cols = q.cols;
      letters = q.letters;
      text = b;
    } ∷ requests_in (room_behind (room ++ more) q.text) (qs ++ r ∷ [])) (text-same q.text room more fits)
    ∙ ap (λ (b : List ℕ). request_in room q ∷ requests_in b (qs ++ r ∷ [])) (room-same q.text room more fits)
    ∙ ap (λ (xs : List RequestView). request_in room q ∷ xs) (behind-all qs r (room_behind room q.text) more rest)

pub all_shared-pushed : (rs : List Request) (r : Request) → all_shared (rs ++ r ∷ []) ≡ all_shared rs + shared_len r.text
all_shared-pushed [] r = omega arith
all_shared-pushed (q ∷ qs) r = omega (arith, all_shared-pushed qs r)

pub length-requests_in : (rs : List Request) (room : List ℕ) → length (requests_in room rs) ≡ length rs
length-requests_in [] room = refl
length-requests_in (q ∷ qs) room = grind (arith, length-requests_in qs (room_behind room q.text))

-- all bytes of the shared room belong to texts of requests
pub room_is_text : (rs : List Request) (room : List ℕ) → all_shared rs ≡ length room
    → length room ≤ text_bytes (requests_in room rs)
room_is_text [] room e = omega (arith, e)
room_is_text (q ∷ qs) room e =
    let fits : shared_len q.text ≤ length room = omega (arith, e) in
    let left : shared_len q.text + length (room_behind room q.text) ≡ length room = room-left q.text room fits in
    let rest : all_shared qs ≡ length (room_behind room q.text) = omega (arith, e, left) in
    let sum = sum_by-cons (λ (r : RequestView). length r.text) (request_in room q)
    (requests_in (room_behind room q.text) qs) in
    grind (arith, sum, left, text-long q.text room fits, room_is_text qs (room_behind room q.text) rest)

placed-len : (t : Text) (old text new : List ℕ) → IsPlaced old text t new → length new ≡ length old + shared_len t
placed-len (Shared n) old text new h = grind (arith, common_steps, h.0, h.1)
placed-len (Own bytes) old text new h = grind (arith, common_steps, h.1)

-- the requests' texts still fill the shared room
pub placed_fills : (rs : List Request) (r : Request) (old text new : List ℕ) → all_shared rs ≡ length old
    → IsPlaced old text r.text new → all_shared (rs ++ r ∷ []) ≡ length new
placed_fills rs r old text new e h = all_shared-pushed rs r ∙ omega (arith, e, placed-len r.text old text new h)

abbrev pub with_text : Request → List ℕ → RequestView
with_text r text = record { kind = r.kind; rows = r.rows; cols = r.cols; letters = r.letters; text = text }

-- the text that was stored is that of the newest request
placed-text : (t : Text) (old text new : List ℕ) → IsPlaced old text t new
    → (more : List ℕ) × ((new ≡ old ++ more) × (text_in more t ≡ text))
placed-text (Shared n) old text new h = (text, (h.1, ap (λ k. take k text) h.0 ∙ take_all (length text) text (omega arith)))
placed-text (Own bytes) old text new h = ([], (h.1 ∙ sym (append-nil old), h.0))

pub placed_behind : (rs : List Request) (r : Request) (old text new : List ℕ) → all_shared rs ≡ length old
    → IsPlaced old text r.text new → requests_in new (rs ++ r ∷ []) ≡ requests_in old rs ++ with_text r text ∷ []
placed_behind rs r old text new e h =
    let p = placed-text r.text old text new h in
    ap (λ b. requests_in b (rs ++ r ∷ [])) p.1.0 ∙ behind-all rs r old p.0 e
    ∙ ap (λ (b : List ℕ). requests_in old rs ++ with_text r b ∷ []) p.1.1

-- where the shared room is too small for the text, memory for it may be refused
pub no_room : (rs : List Request) (room text : List ℕ) (capacity : ℕ) → all_shared rs ≡ length room
    → 4096 ≤ capacity → capacity < length room + length text → HasNoPlace (requests_in room rs) text
no_room rs room text capacity e most less = inr (inr (omega (arith, room_is_text rs room e, most, less)))

pub full : (rs : List Request) (room text : List ℕ) → 256 ≤ length rs → HasNoPlace (requests_in room rs) text
full rs room text h = inl (subst (λ n. 256 ≤ n) (sym (length-requests_in rs room)) h)
