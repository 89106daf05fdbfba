-- A session's later answers come after its earlier ones.
use Rattle.std.proofs.Common.{◌≡◌, ◌∙◌, ℕ, zero, suc, Bool, true, false, List, [], ◌∷◌, ◌++◌, map, Some, None}
use Rattle.std.proofs.Common.{refl, sym, ap, subst, append_assoc, append-nil, if◌then◌else◌}
use Rattle.std.specs.Prelude.{slice_get}
use Rattle.std.specs.List.{list_any}
use Rattle.termrelay.specs.Calls.{Call, Resize, Attach, Detach, Frame, Pump, Fork}
use Rattle.termrelay.specs.declared.runs.call.Reply.{Reply}
use Rattle.termrelay.specs.declared.runs.call.Reply.TheVariants.{Done, Attached, Answered}
use Rattle.termrelay.specs.Hub.{HubState, clients_in}
use Rattle.termrelay.specs.Log.{change_last, ended, grown, bytes_taken}
use Rattle.relay_theorem.specs.History.{as_reported, Entry, Story, is_on, with_session, with_entries}
use Rattle.relay_theorem.specs.History.{entries_of, stories_after}
use Rattle.relay_theorem.specs.Redraws.{GrowsTo, EachStoryGrows}

-- the n-th story of a list has grown
abbrev Grown : Story → List Story → ℕ → Type 0
Grown t us n = (u : Story) × (slice_get us n ≡ Some u) × GrowsTo t u

stays : (t : Story) → GrowsTo t t
stays t = record { later = []; entries = sym (append-nil t.entries); size = refl }

same-grown : (t : Story) (ts : List Story) (n : ℕ) → slice_get ts n ≡ Some t → Grown t ts n
same-grown t ts n at = (t, at, stays t)

-- others come after
pushed-grown : (t : Story) (ts more : List Story) (n : ℕ) → slice_get ts n ≡ Some t → Grown t (ts ++ more) n
pushed-grown t [] more n at = absurd (let no : None ≡ Some t = at in cc)
pushed-grown t (x ∷ ts) more zero at = (t, at, stays t)
pushed-grown t (x ∷ ts) more (suc n) at = pushed-grown t ts more n at

module _ (f : Story → Story) (grows : (t : Story) → GrowsTo t (f t)) where
  mapped-grown : (t : Story) (ts : List Story) (n : ℕ) → slice_get ts n ≡ Some t → Grown t (map f ts) n
  mapped-grown t [] n at = absurd (let no : None ≡ Some t = at in cc)
  mapped-grown t (x ∷ ts) zero at =
      let same : t ≡ x = cc in (f x, refl, subst (λ s. GrowsTo s (f x)) (sym same) (grows x))
  mapped-grown t (x ∷ ts) (suc n) at = mapped-grown t ts n at

  module _ (test : Story → Bool) where
    changed-by : (later here : Bool) (t x : Story) (ts : List Story) (n : ℕ) → slice_get (x ∷ ts) n ≡ Some t
        → ((m : ℕ) → slice_get ts m ≡ Some t → Grown t (change_last test f ts) m)
        → Grown t (if later then x ∷ change_last test f ts else if here then f x ∷ ts else x ∷ ts) n
    changed-by true here t x ts zero at go = (t, at, stays t)
    changed-by true here t x ts (suc n) at go = go n at
    changed-by false true t x ts zero at go =
        let same : t ≡ x = cc in (f x, refl, subst (λ s. GrowsTo s (f x)) (sym same) (grows x))
    changed-by false true t x ts (suc n) at go = (t, at, stays t)
    changed-by false false t x ts n at go = (t, at, stays t)

    changed-grown : (t : Story) (ts : List Story) (n : ℕ) → slice_get ts n ≡ Some t
        → Grown t (change_last test f ts) n
    changed-grown t [] n at = absurd (let no : None ≡ Some t = at in cc)
    changed-grown t (x ∷ ts) n at =
        changed-by (list_any test ts) (test x) t x ts n at (λ m e. changed-grown t ts m e)

-- what happens to a story
entries-grow : (es : List Entry) (t : Story) → GrowsTo t (with_entries es t)
entries-grow es t = record { later = es; entries = refl; size = refl }

ended-grows : (t : Story) → GrowsTo t (with_session ended t)
ended-grows t = record { later = []; entries = sym (append-nil t.entries); size = refl }

pumped-grows : (bytes : List ℕ) (t : Story) → GrowsTo t (with_session (grown bytes) t)
pumped-grows bytes t = record { later = []; entries = sym (append-nil t.entries); size = refl }

module _ (h : HubState as_reported) (t : Story) (ts : List Story) (n : ℕ) (at : slice_get ts n ≡ Some t) where
  call-grown : (call : Call) (reply : Reply) → Grown t (stories_after h call reply ts) n
  call-grown (Resize rows cols) Done = mapped-grown (with_session ended) ended-grows t ts n at
  call-grown Attach (Attached key) = pushed-grown t ts _ n at
  call-grown (Detach key) Done = changed-grown (with_session ended) ended-grows (is_on key) t ts n at
  call-grown (Frame key) (Answered answer) =
      let es = entries_of h (clients_in h key) answer in
      changed-grown (with_entries es) (entries-grow es) (is_on key) t ts n at
  call-grown (Pump key takes) reply =
      let bytes = bytes_taken takes (clients_in h key) in
      changed-grown (with_session (grown bytes)) (pumped-grows bytes) (is_on key) t ts n at
  call-grown (Fork key) (Attached new) = pushed-grown t ts _ n at
  call-grown _ _ = same-grown t ts n at

grows-on : (t u v : Story) → GrowsTo t u → GrowsTo u v → GrowsTo t v
grows-on t u v g k = record {
  later = g.later ++ k.later;
  entries = k.entries ∙ ap (λ es. es ++ k.later) g.entries ∙ append_assoc t.entries g.later k.later;
  size = k.size ∙ g.size;
}

pub stories-grow : EachStoryGrows
stories-grow h k ts us [] [] n t run at = (t, ap (λ xs. slice_get xs n) run.1 ∙ at, stays t)
stories-grow h k ts us [] (reply ∷ replies) n t run at = absurd run
stories-grow h k ts us (call ∷ calls) [] n t run at = absurd run
stories-grow h k ts us (call ∷ calls) (reply ∷ replies) n t (g, is, serves, later) at =
    let first = call-grown h t ts n at call reply in
    let rest = stories-grow g k (stories_after h call reply ts) us calls replies n first.0 later first.1 in
    (rest.0, rest.1, grows-on t first.0 rest.0 first.2 rest.2)
