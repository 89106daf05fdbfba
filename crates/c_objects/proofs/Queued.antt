-- What happens to a request whose text was put together in a draft.
use Rattle.std.proofs.Common.{◌≡◌, ◌∙◌, ℕ, ◌<◌, ◌≤◌, Bool, true, false, List, ◌++◌, ◌∷◌, [], length}
use Rattle.std.proofs.Common.{OnOk, OnErr, Ok, Err, Result, ap, arith, subst, inl, inr}
use Rattle.std.proofs.lemmas.List.{take_all, length-take}
use Rattle.c_objects.proofs.Drafts.{drafted_behind}
use Rattle.c_objects.specs.Queue.{drafted}
use Rattle.c_objects.specs.Requests.{RequestView, RequestsView, HasNoPlace, Queues, Gets, Told, one_dropped}

-- if the kept part of a text finds no place, neither does the whole text
no-place : (waiting : List RequestView) (text : List ℕ) → HasNoPlace waiting (drafted text) → HasNoPlace waiting text
no-place waiting text (inl full) = inl full
no-place waiting text (inr (inl long)) = inr (inl (omega (arith, long, length-take 1022 text)))
no-place waiting text (inr (inr more)) = inr (inr (omega (arith, more, length-take 1022 text)))

all-counts : (text : List ℕ) → length (drafted text) ≤ 1021 → drafted text ≡ text
all-counts text h = take_all 1022 text (omega (arith, h, length-take 1022 text))

gets : (q new : RequestsView) (waiting : List RequestView) (r : RequestView) → length q.waiting < 256
    → length (drafted r.text) ≤ 1021 → waiting ≡ q.waiting ++ (record r { text = drafted r.text }) ∷ []
    → new ≡ record q { waiting = waiting } → Gets q r new
gets q new waiting r room short more is =
    let all : drafted r.text ≡ r.text = all-counts r.text short in
    record {
      room = room;
      short = subst (λ (t : List ℕ). length t ≤ 1021) all short;
      new_is = is ∙ ap (λ (ws : List RequestView). record q { waiting = ws })
          (more ∙ ap (λ (t : List ℕ). q.waiting ++ (record r { text = t }) ∷ []) all);
    }

-- The kept part of the text was passed to the queue, and the request was counted as dropped if it found no place.
pub queued : {T E : Type 0} (result : Result T E) (q new : RequestsView) (waiting : List RequestView) (r : RequestView)
    (text : List ℕ) → text ≡ drafted r.text → OnOk result (length q.waiting < 256) → OnOk result (length text ≤ 1021)
    → OnOk result (waiting ≡ q.waiting ++ (record r { text = text }) ∷ []) → OnErr result (waiting ≡ q.waiting)
    → OnErr result (HasNoPlace q.waiting text) → OnOk result (new ≡ record q { waiting = waiting })
    → OnErr result (new ≡ one_dropped (record q { waiting = waiting })) → Queues q r new
queued (Ok u) q new waiting r text is room short more same no_place counted dropped =
    inl (gets q new waiting r room (subst (λ (t : List ℕ). length t ≤ 1021) is short)
    (more ∙ ap (λ (t : List ℕ). q.waiting ++ (record r { text = t }) ∷ []) is) counted)
queued (Err e) q new waiting r text is room short more same no_place counted dropped =
    inr (
      no-place q.waiting r.text (subst (λ (t : List ℕ). HasNoPlace q.waiting t) is no_place),
      dropped ∙ ap (λ (ws : List RequestView). one_dropped (record q { waiting = ws })) same,
    )

pub told : (tells : Bool) (q new : RequestsView) (r : RequestView) → tells ≡ true → Queues q r new → Told tells q r new
told true q new r e h = h
told false q new r e h = grind (arith, e)

-- a text after another one that begins the draft
pub both : (old between new text first second : List ℕ) → text ≡ drafted new → old ≡ []
    → drafted between ≡ drafted (old ++ first) → drafted new ≡ drafted (between ++ second)
    → text ≡ drafted (first ++ second)
both old between new text first second is empty e f =
    is ∙ f ∙ drafted_behind old between first second e
    ∙ ap (λ (zs : List ℕ). drafted (zs ++ (first ++ second))) empty

pub after : (between new text first second : List ℕ) → text ≡ drafted new → between ≡ first
    → drafted new ≡ drafted (between ++ second) → text ≡ drafted (first ++ second)
after between new text first second is e f = is ∙ f ∙ ap (λ (zs : List ℕ). drafted (zs ++ second)) e
