-- A state and a view show the same after forms.
use Rattle.std.proofs.Common.{◌≡◌, ℕ, ◌<◌, List, [], ◌∷◌, ◌++◌, sym, refl, ap, subst, ◌∙◌, append_assoc}
use Rattle.std.proofs.Common.{arith}
use Rattle.std.specs.List.{AllByRecursion}
use Rattle.std.proofs.lemmas.List.{append-nil}
use Rattle.vte_core.specs.Ground.{AtGround}
use Rattle.vt100_forms.specs.Form.{Form, bytes_of}
use Rattle.terminal_model.specs.Term.{Size, Term}
use Rattle.terminal_model.specs.Apply.{run}
use Rattle.terminal_model.specs.FormText.{IsSentForm}
use Rattle.screen_model.specs.State.{State, fresh_state}
use Rattle.screen_model.specs.Step.{resized_to}
use Rattle.screen_model.specs.Made.{Act, Fed, Resized, played, events_added, bytes_fed, made_on, made}
use Rattle.forms_read.specs.Terminals.{IsSmall}
use Rattle.screen_view_laws.specs.Plain.{terminal_of, size_shown, IsPlainState}
use Rattle.screen_view_laws.proofs.FreshStates.{fresh-blank}
use Rattle.terminal_model.proofs.FormTexts.{forms-sent}
use Rattle.screen_view_laws.proofs.Playing.{written_form-made}
use Rattle.screen_view_laws.proofs.SentPlaying.{sent-written_form-made, run-alike}
use Rattle.termview.specs.Seen.{seen}
use Rattle.termview.proofs.WrittenForms.{written_form-shown}
use Rattle.screen_view_laws.specs.Laws.{ShowsAlike, NewOnesAgree, EachWrittenFormIsAgreedOn, AgreeingModes}
use Rattle.screen_view_laws.specs.Laws.{EachSentWrittenFormIsAgreedOn, EachFeedIsAgreedOn}

some-rows : (z : Size) (s : State) → size_shown s ≡ z → IsPlainState s → 0 < z.rows
some-rows z s e p = subst (λ (x : Size). 0 < x.rows) e (omega (arith, p.1.cursor_row))

some-cols : (z : Size) (s : State) → size_shown s ≡ z → IsPlainState s → 0 < z.cols
some-cols z s e p = subst (λ (x : Size). 0 < x.cols) e p.1.some_cols

small : (z : Size) (s : State) → size_shown s ≡ z → IsPlainState s → IsSmall z
small z s e p = subst IsSmall e (p.1.few_rows, p.1.few_cols)

-- the effect of the forms on both
same-run : (z : Size) (s : State) (parsed : List ℕ) (fs : List Form) → ShowsAlike z s parsed
    → run (size_shown s) fs (terminal_of s) ≡ run z fs (seen z parsed)
same-run z s parsed fs a = (λ i. run (a.size i) fs (a.shows i))

-- the effect of the forms' bytes on the view
view-shows : (z : Size) (s : State) (parsed : List ℕ) (fs : List Form) → AtGround 1024 parsed → size_shown s ≡ z
    → IsPlainState s → AllByRecursion IsSentForm fs
    → (seen z (parsed ++ bytes_of fs) ≡ run z fs (seen z parsed)) × AtGround 1024 (parsed ++ bytes_of fs)
view-shows z s parsed fs g e p k =
    written_form-shown z parsed fs (some-rows z s e p) (some-cols z s e p) (small z s e p) g k

pub new-agree : NewOnesAgree
new-agree rows cols capacity some_rows few_rows some_cols few_cols =
    let f = fresh-blank rows cols capacity some_rows few_rows some_cols few_cols in
    record { size = refl; plain = f.0; shows = f.1 }

pub written_form-agreed : EachWrittenFormIsAgreedOn
written_form-agreed z past s parsed fs g h a k =
    let made = written_form-made past s fs g a.plain k in
    let view = view-shows z s parsed fs h a.size a.plain (forms-sent fs k) in (
      record {
        size = made.0.size ∙ a.size;
        plain = made.0.plain;
        shows = made.0.shows ∙ same-run z s parsed fs a ∙ sym view.0;
      },
      made.1,
      view.1,
    )

-- ---- acts

made-after : (past : List ℕ) (s : State) (acts more : List Act)
    → made_on past s (acts ++ more) ≡ made_on (past ++ bytes_fed acts) (made_on past s acts) more
made-after past s [] more = ap (λ (p : List ℕ). made_on p s more) (sym (append-nil past))
made-after past s (Fed bs ∷ acts) more =
    made-after (past ++ bs) (played (events_added past bs) s) acts more
    ∙ ap (λ (p : List ℕ). made_on p (made_on (past ++ bs) (played (events_added past bs) s) acts) more)
    (append_assoc past bs (bytes_fed acts))
made-after past s (Resized rows cols ∷ acts) more = made-after past (resized_to rows cols s).state acts more

bytes-after : (acts : List Act) (bs : List ℕ) → bytes_fed (acts ++ Fed bs ∷ []) ≡ bytes_fed acts ++ bs
bytes-after [] bs = append-nil bs
bytes-after (Fed cs ∷ acts) bs = ap (λ (p : List ℕ). cs ++ p) (bytes-after acts bs)
    ∙ sym (append_assoc cs (bytes_fed acts) bs)
bytes-after (Resized rows cols ∷ acts) bs = bytes-after acts bs

pub feed-agreed : EachFeedIsAgreedOn
feed-agreed z rows cols capacity acts parsed fs g h a k =
    let r = written_form-agreed z (bytes_fed acts) (made rows cols capacity acts) parsed fs g h a k in (
      subst (λ (s : State). ShowsAlike z s (parsed ++ bytes_of fs))
          (sym (made-after [] (fresh_state rows cols capacity) acts (Fed (bytes_of fs) ∷ []))) r.0,
      subst (λ (bs : List ℕ). AtGround 1024 bs) (sym (bytes-after acts (bytes_of fs))) r.1,
      r.2,
    )

-- ---- modes

pub agreeing-modes : AgreeingModes
agreeing-modes z s parsed a = record {
  size = a.size;
  plain = a.plain;
  modes = ap (λ (t : Term). t.modes) a.shows;
  style = ap (λ (t : Term). t.style) a.shows;
}

pub sent-written_form-agreed : EachSentWrittenFormIsAgreedOn
sent-written_form-agreed z past s parsed fs g h a k =
    let made = sent-written_form-made past s fs g a.plain k in
    let view = view-shows z s parsed fs h a.size a.plain k in
    let there = ap (λ (y : Size). run y fs (terminal_of s)) a.size in
    let same = run-alike z fs (seen z parsed) (terminal_of s) (record { modes = a.modes; style = a.style }) in (
      record {
        size = made.0.size ∙ a.size;
        plain = made.0.plain;
        modes = made.0.modes ∙ ap (λ (t : Term). t.modes) there ∙ same.modes
            ∙ ap (λ (t : Term). t.modes) (sym view.0);
        style = made.0.style ∙ ap (λ (t : Term). t.style) there ∙ same.style
            ∙ ap (λ (t : Term). t.style) (sym view.0);
      },
      made.1,
      view.1,
    )
