-- Each call keeps the facts about each session.
use Rattle.std.proofs.Common.{◌≡◌, ◌∙◌, ℕ, Bool, true, false, ◌||◌, List, [], ◌∷◌, ◌++◌, map, length, take, drop}
use Rattle.std.proofs.Common.{Option, Some, None, refl, sym, ap, subst, append_assoc, append-nil, take-append-drop}
use Rattle.std.proofs.Common.{arith, not, ◌&&◌}
use Rattle.std.specs.Prelude.{◌==◌, is_some, if◌then◌else◌}
use Rattle.std.specs.List.{AllByRecursion, list_any}
use Rattle.std.proofs.lemmas.Bool.{eqb-true, eq-eqb}
use Rattle.std.proofs.Math.Bool.{or-true, or-false}
use Rattle.terminal_model.proofs.FormTexts.{all-each}
use Rattle.std.proofs.lemmas.List.Elements.{All-push, All-nil, recursion_from_All}
use Rattle.terminal_model.specs.Term.{Size, Shown}
use Rattle.vt100_core.specs.Picture.{grid_size}
use Rattle.screen_model.specs.State.{State}
use Rattle.screen_model.specs.Made.{Act, Fed, Resized, made}
use Rattle.screen_model.specs.Holds.{IsSide, IsAct, AreActs, last_rows, last_cols}
use Rattle.screen_model.proofs.MadeLemmas.{makes-last_size}
use Rattle.termrelay.specs.Frame.{frame_text}
use Rattle.termrelay.specs.Answers.{ClientState, is_frame, answer_for, after_answer}
use Rattle.termrelay.specs.declared.answer.Answer.{Answer}
use Rattle.termrelay.specs.declared.runs.call.Reply.{Reply}
use Rattle.termrelay.specs.declared.error.HubError.TheVariants as hub
use Rattle.termrelay.specs.Hub.{HubState, screen_in, size_in, shown_in, with_client, new_client, no_clients}
use Rattle.termrelay.specs.Calls.{Call, Frame, Pump, IsCall, taken_by}
use Rattle.termrelay.specs.Joins.{forked}
use Rattle.termrelay.specs.Log.{change_last, last_that, begun, ended, grown, branched, bytes_owed, bytes_taken}
use Rattle.termrelay.proofs.LogLemmas.{none-changed}
use Rattle.relay_theorem.specs.History.{as_reported, fresh, Entry, Story, size_of_story, is_on, with_session}
use Rattle.relay_theorem.specs.History.{with_entries, entries_of, stories_after, RunsReported}
use Rattle.relay_theorem.specs.Judge.{texts}
use Rattle.relay_theorem.specs.Laws.{base_then, base_after, last_text, IsAnswered, AreAnswered, IsServed, IsReported}
use Rattle.relay_theorem.specs.Laws.{EachSessionIsReported, AtMostOne, EachClientHasASession}
use Rattle.relay_theorem.proofs.StoryLemmas.{all-map, all-push, all-at, any-mapped, one-mapped, none-mapped}
use Rattle.relay_theorem.proofs.StoryLemmas.{no-one-mapped, any-pushed, one-pushed, pick, only-changed, on-live}
use Rattle.relay_theorem.proofs.StoryLemmas.{on-key, off-key, other-key, picked-on, ends-on, ends-other, put, at-key}
use Rattle.relay_theorem.proofs.StoryLemmas.{at-other, at-known, found}
use Rattle.relay_theorem.proofs.CallLemmas.{acted, left_in, Does, refuses, feeds, fails, resizes, attaches, detaches}
use Rattle.relay_theorem.proofs.CallLemmas.{answers, declines, pumps, misses, forks, draws, serves-does}

-- ---- sizes

fed-rows : (rows : ℕ) (acts : List Act) (bytes : List ℕ) → last_rows rows (acts ++ Fed bytes ∷ []) ≡ last_rows rows acts
fed-rows rows [] bytes = refl
fed-rows rows (Fed bs ∷ acts) bytes = fed-rows rows acts bytes
fed-rows rows (Resized height width ∷ acts) bytes = fed-rows height acts bytes

fed-cols : (cols : ℕ) (acts : List Act) (bytes : List ℕ) → last_cols cols (acts ++ Fed bytes ∷ []) ≡ last_cols cols acts
fed-cols cols [] bytes = refl
fed-cols cols (Fed bs ∷ acts) bytes = fed-cols cols acts bytes
fed-cols cols (Resized height width ∷ acts) bytes = fed-cols width acts bytes

side-rows : (rows : ℕ) (acts : List Act) → IsSide rows → AllByRecursion IsAct acts → IsSide (last_rows rows acts)
side-rows rows [] s h = s
side-rows rows (Fed bs ∷ acts) s h = side-rows rows acts s h.1
side-rows rows (Resized height width ∷ acts) s h = side-rows height acts h.0.0 h.1

side-cols : (cols : ℕ) (acts : List Act) → IsSide cols → AllByRecursion IsAct acts → IsSide (last_cols cols acts)
side-cols cols [] s h = s
side-cols cols (Fed bs ∷ acts) s h = side-cols cols acts s h.1
side-cols cols (Resized height width ∷ acts) s h = side-cols width acts h.0.1 h.1

abbrev sized : ℕ → ℕ → Size
sized rows cols = record { rows = rows; cols = cols }

module _ (rows cols : ℕ) (acts : List Act) (h : AreActs rows cols 0 acts) where
  abbrev size_made : Size
  size_made = grid_size (made rows cols 0 acts).shown

  size-is : size_made ≡ sized (last_rows rows acts) (last_cols cols acts)
  size-is =
      let s = makes-last_size rows cols 0 acts h in
      λ i. record { rows = s.height i; cols = s.width i }

  height-now : IsSide size_made.rows
  height-now =
      subst IsSide (sym (makes-last_size rows cols 0 acts h).height)
      (side-rows rows acts h.height (recursion_from_All IsAct acts h.each))

  width-now : IsSide size_made.cols
  width-now =
      subst IsSide (sym (makes-last_size rows cols 0 acts h).width)
      (side-cols cols acts h.width (recursion_from_All IsAct acts h.each))

  acts-more : (act : Act) → IsAct act → AreActs rows cols 0 (acts ++ act ∷ [])
  acts-more act p = record {
    height = h.height;
    width = h.width;
    few = h.few;
    each = All-push IsAct acts act h.each p;
  }

size-fed : (rows cols : ℕ) (acts : List Act) (bytes : List ℕ) → AreActs rows cols 0 acts
    → grid_size (made rows cols 0 (acts ++ Fed bytes ∷ [])).shown ≡ grid_size (made rows cols 0 acts).shown
size-fed rows cols acts bytes h =
    let high = fed-rows rows acts bytes in
    let wide = fed-cols cols acts bytes in
    let same : sized (last_rows rows (acts ++ Fed bytes ∷ [])) (last_cols cols (acts ++ Fed bytes ∷ []))
    ≡ sized (last_rows rows acts) (last_cols cols acts) =
    λ i. record { rows = high i; cols = wide i } in
    size-is rows cols (acts ++ Fed bytes ∷ []) (acts-more rows cols acts h (Fed bytes) tt) ∙ same
    ∙ sym (size-is rows cols acts h)

-- ---- one more entry

more-texts : (es : List Entry) (e : Entry) → texts (es ++ e ∷ []) ≡ texts es ++ e.text
more-texts [] e = append-nil e.text
more-texts (x ∷ es) e = ap (λ ys. x.text ++ ys) (more-texts es e) ∙ sym (append_assoc x.text (texts es) e.text)

more-last : (text : List ℕ) (es : List Entry) (e : Entry)
    → last_text text (es ++ e ∷ []) ≡ (if is_frame e.answer then e.text else last_text text es)
more-last text [] e = refl
more-last text (x ∷ es) e = more-last (if is_frame x.answer then x.text else text) es e

module _ (rows cols : ℕ) where
  more-base : (base : Option Shown) (es : List Entry) (e : Entry)
      → base_after rows cols base (es ++ e ∷ []) ≡ base_then rows cols (base_after rows cols base es) e
  more-base base [] e = refl
  more-base base (x ∷ es) e = more-base (base_then rows cols base x) es e

  more-answered : (z : Size) (base : Option Shown) (es : List Entry) (e : Entry) → AreAnswered rows cols z base es
      → IsAnswered rows cols z (base_after rows cols base es) e → AreAnswered rows cols z base (es ++ e ∷ [])
  more-answered z base [] e h k = (k, tt)
  more-answered z base (x ∷ es) e h k = (h.0, more-answered z (base_then rows cols base x) es e h.1 k)

-- ---- a session after a call on it

pub none-owed : (s : State) (base : Option Shown) (owed : List ℕ)
    → is_frame (answer_for s (record { owed = owed; base = base })) ≡ true → owed ≡ []
none-owed s base [] h = refl
none-owed s base (x ∷ owed) h = absurd (let no : false ≡ true = h in cc)

-- the client and its entries after an answer, by whether it is a frame
module _ (z : Size) (now : Shown) (c : ClientState) where
  abbrev kept_by : Bool → ClientState
  kept_by frame = if frame then record { owed = c.owed ++ frame_text z c.base now; base = Some now } else c

  abbrev text_by : Bool → List ℕ
  text_by frame = if frame then frame_text z c.base now else []

  served-bytes : (pumped all : List ℕ) (frame : Bool) → pumped ++ c.owed ≡ all
      → pumped ++ (kept_by frame).owed ≡ all ++ text_by frame
  served-bytes pumped all true h =
      let text = frame_text z c.base now in
      sym (append_assoc pumped c.owed text) ∙ ap (λ xs. xs ++ text) h
  served-bytes pumped all false h = h ∙ sym (append-nil all)

  served-owed : (read last : List ℕ) (frame : Bool) → read ++ c.owed ≡ last → (frame ≡ true → c.owed ≡ [])
      → (more : List ℕ) × (more ++ (kept_by frame).owed ≡ (if frame then text_by frame else last))
  served-owed read last true h k = ([], ap (λ xs. xs ++ frame_text z c.base now) (k refl))
  served-owed read last false h k = (read, h)

  served-base : (base : Option Shown) (frame : Bool) → c.base ≡ base
      → (kept_by frame).base ≡ (if frame then Some now else base)
  served-base base true h = refl
  served-base base false h = h

-- a session that hasn't ended is served by the client at its key, whichever that is
abbrev pub IsServedBy : ℕ → ℕ → (ℕ → Option ClientState) → Story → Type 0
IsServedBy rows cols clients t =
    (c : ClientState) × (clients t.session.client ≡ Some c) × IsServed rows cols t c

-- the session of a known client
pub served-as : (rows cols : ℕ) (clients : ℕ → Option ClientState) (key : ℕ) (t : Story) (c : ClientState)
    → t.session.client ≡ key → clients key ≡ Some c → IsServedBy rows cols clients t → IsServed rows cols t c
served-as rows cols clients key t c is at (d, found, s) =
    let same : Some d ≡ Some c = sym found ∙ ap clients is ∙ at in
    let one : d ≡ c = cc in
    subst (λ k. IsServed rows cols t k) one s

-- it has a story, and while it hasn't ended the screen has its size
pub record IsIn (h : HubState as_reported) (t : Story) : Type 0 where
  pub reported : IsReported h.parser.rows h.parser.cols h.clients t
  pub size : t.session.ended ≡ false → size_of_story t ≡ size_in h

put-at : (h : HubState as_reported) (key : ℕ) (slot : Option ClientState) (t : Story) → t.session.client ≡ key
    → (put h key slot).clients t.session.client ≡ slot
put-at h key slot t is = ap (λ k. with_client h.clients key slot k) is ∙ at-key h.clients key slot

answered-in : (h : HubState as_reported) (key : ℕ) (c : ClientState) (answer : Answer) (t : Story)
    → AreActs h.parser.rows h.parser.cols 0 h.parser.acts → h.clients key ≡ Some c
    → answer ≡ answer_for (screen_in h).state c → IsIn h t → is_on key t ≡ true
    → IsIn (put h key (Some (after_answer (size_in h) (shown_in h) c answer)))
    (with_entries (entries_of h (Some c) answer) t)
answered-in h key c answer t acts at is k on =
    let rows = h.parser.rows in
    let cols = h.parser.cols in
    let z = size_in h in
    let now = shown_in h in
    let live = on-live key t on in
    let s = served-as rows cols h.clients key t c (on-key key t on) at (k.reported.served live) in
    let same = k.size live in
    let frame = is_frame answer in
    let e : Entry = record { moment = h.parser.acts; answer = answer; text = text_by z now c frame } in
    let last = base_after rows cols None t.entries in
    let first : IsAnswered rows cols z c.base e =
    record { acts = acts; size = refl; owed = c.owed; answer = is; text = refl } in
    let entry : IsAnswered rows cols (size_of_story t) last e =
    subst (λ y. IsAnswered rows cols y last e) (sym same)
    (subst (λ base. IsAnswered rows cols z base e) s.base first) in
    let bytes = served-bytes z now c t.session.pumped (texts t.entries) frame s.bytes ∙ sym (more-texts t.entries e) in
    let owed = served-owed z now c s.read (last_text [] t.entries) frame s.owed
    (λ f. none-owed (screen_in h).state c.base c.owed (ap is_frame (sym is) ∙ f)) in
    record {
      reported = record {
        height = k.reported.height;
        width = k.reported.width;
        entries = more-answered rows cols (size_of_story t) None t.entries e k.reported.entries entry;
        served = λ _. (
          after_answer z now c answer,
          put-at h key (Some (after_answer z now c answer)) t (on-key key t on),
          record {
            bytes = bytes;
            read = owed.0;
            owed = owed.1 ∙ sym (more-last [] t.entries e);
            base = served-base z now c last frame s.base ∙ sym (more-base rows cols None t.entries e);
          },
        );
        left = (kept_by z now c frame).owed;
        prefix = bytes;
      };
      size = λ _. same;
    }

pumped-in : (h : HubState as_reported) (key : ℕ) (c : ClientState) (n : ℕ) (t : Story) → h.clients key ≡ Some c
    → IsIn h t → is_on key t ≡ true
    → IsIn (put h key (Some (record c { owed = drop n c.owed }))) (with_session (grown (take n c.owed)) t)
pumped-in h key c n t at k on =
    let rows = h.parser.rows in
    let cols = h.parser.cols in
    let live = on-live key t on in
    let s = served-as rows cols h.clients key t c (on-key key t on) at (k.reported.served live) in
    let split : (xs : List ℕ) → (xs ++ take n c.owed) ++ drop n c.owed ≡ xs ++ c.owed =
    λ xs. append_assoc xs (take n c.owed) (drop n c.owed) ∙ ap (λ ys. xs ++ ys) (take-append-drop n c.owed) in
    record {
      reported = record {
        height = k.reported.height;
        width = k.reported.width;
        entries = k.reported.entries;
        served = λ _. (
          record c { owed = drop n c.owed },
          put-at h key (Some (record c { owed = drop n c.owed })) t (on-key key t on),
          record {
            bytes = split t.session.pumped ∙ s.bytes;
            read = s.read ++ take n c.owed;
            owed = split s.read ∙ s.owed;
            base = s.base;
          },
        );
        left = drop n c.owed;
        prefix = split t.session.pumped ∙ s.bytes;
      };
      size = k.size;
    }

-- a session that has ended, whatever else changes
ended-in : (h g : HubState as_reported) (t : Story) → g.parser.rows ≡ h.parser.rows → g.parser.cols ≡ h.parser.cols
    → IsIn h t → IsIn g (with_session ended t)
ended-in h g t er ec k =
    let entries : AreAnswered g.parser.rows g.parser.cols (size_of_story t) None t.entries =
    subst (λ r. AreAnswered r g.parser.cols (size_of_story t) None t.entries) (sym er)
    (subst (λ c. AreAnswered h.parser.rows c (size_of_story t) None t.entries) (sym ec) k.reported.entries) in
    record {
      reported = record {
        height = k.reported.height;
        width = k.reported.width;
        entries = entries;
        served = λ e. absurd (let no : true ≡ false = e in cc);
        left = k.reported.left;
        prefix = k.reported.prefix;
      };
      size = λ e. absurd (let no : true ≡ false = e in cc);
    }

-- one whose client stays, where something else is put at another key
still-in : (h : HubState as_reported) (key : ℕ) (slot : Option ClientState) (t : Story)
    → ((c : ClientState) → t.session.ended ≡ false → h.clients t.session.client ≡ Some c
    → with_client h.clients key slot t.session.client ≡ Some c)
    → IsIn h t → IsIn (put h key slot) t
still-in h key slot t stays k = record {
  reported = record {
    height = k.reported.height;
    width = k.reported.width;
    entries = k.reported.entries;
    served = λ live.
        let s = k.reported.served live in
        (s.0, stays s.0 live s.1, s.2);
    left = k.reported.left;
    prefix = k.reported.prefix;
  };
  size = k.size;
}

off-in : (h : HubState as_reported) (key : ℕ) (slot : Option ClientState) (t : Story) → is_on key t ≡ false → IsIn h t
    → IsIn (put h key slot) t
off-in h key slot t off k =
    still-in h key slot t
    (λ c live at. at-other h.clients key slot t.session.client (off-key key t off live) ∙ at) k

begun-in : (h : HubState as_reported) (key : ℕ) → AreActs h.parser.rows h.parser.cols 0 h.parser.acts
    → IsIn (put h key (Some new_client)) (record { session = begun h key; entries = [] })
begun-in h key acts = record {
  reported = record {
    height = height-now h.parser.rows h.parser.cols h.parser.acts acts;
    width = width-now h.parser.rows h.parser.cols h.parser.acts acts;
    entries = tt;
    served = λ _. (
      new_client,
      at-key h.clients key (Some new_client),
      record { bytes = refl; read = []; owed = refl; base = refl },
    );
    left = [];
    prefix = refl;
  };
  size = λ _. refl;
}

-- ---- all sessions after a call

-- each has a story; where a session of a key hasn't ended there is a client, and only there; and there is one such
-- session at most
pub record IsKept (h : HubState as_reported) (ts : List Story) : Type 0 where
  pub acts : AreActs h.parser.rows h.parser.cols 0 h.parser.acts
  pub each : AllByRecursion (IsIn h) ts
  pub keys : (key : ℕ) → is_some (h.clients key) ≡ list_any (is_on key) ts
  pub one : (key : ℕ) → AtMostOne (is_on key) ts

-- by whether it is the key
by-key : (clients : ℕ → Option ClientState) (key : ℕ) (slot : Option ClientState) (other : ℕ) (b c : Bool)
    → (other == key) ≡ b → (b ≡ true → is_some slot ≡ c) → (b ≡ false → is_some (clients other) ≡ c)
    → is_some (with_client clients key slot other) ≡ c
by-key clients key slot other true c e same others = ap (λ b. is_some (if b then slot else clients other)) e ∙ same refl
by-key clients key slot other false c e same others =
    ap (λ b. is_some (if b then slot else clients other)) e ∙ others refl

-- the parser goes on, and the screen keeps its size
parser-kept : (h : HubState as_reported) (acts : List Act) (failed : Bool) (ts : List Story)
    → AreActs h.parser.rows h.parser.cols 0 acts
    → grid_size (made h.parser.rows h.parser.cols 0 acts).shown ≡ size_in h → IsKept h ts
    → IsKept (record h { parser = record (h.parser) { acts = acts; failed = failed } }) ts
parser-kept h acts failed ts are size k =
    let g : HubState as_reported = record h { parser = record (h.parser) { acts = acts; failed = failed } } in
    record {
      acts = are;
      each = all-each (IsIn h) (IsIn g)
          (λ t i. record { reported = i.reported; size = λ live. i.size live ∙ sym size }) ts k.each;
      keys = k.keys;
      one = k.one;
    }

pub fed-kept : (h : HubState as_reported) (bytes : List ℕ) (ts : List Story) → IsKept h ts
    → IsKept (acted h (Fed bytes) h.clients) ts
fed-kept h bytes ts k =
    let p = h.parser in
    parser-kept h (p.acts ++ Fed bytes ∷ []) p.failed ts (acts-more p.rows p.cols p.acts k.acts (Fed bytes) tt)
    (size-fed p.rows p.cols p.acts bytes k.acts) k

pub resized-kept : (h : HubState as_reported) (rows cols : ℕ) (ts : List Story) → IsSide rows × IsSide cols
    → IsKept h ts
    → IsKept (acted h (Resized rows cols) no_clients) (map (with_session ended) ts)
resized-kept h rows cols ts s k =
    let p = h.parser in
    let g = acted h (Resized rows cols) no_clients in
    record {
      acts = acts-more p.rows p.cols p.acts k.acts (Resized rows cols) s;
      each = all-map (IsIn h) (IsIn g) (with_session ended) (λ t i. ended-in h g t refl refl i) ts k.each;
      keys = λ key. sym (none-mapped (is_on key) (with_session ended) (λ t. refl) ts);
      one = λ key. no-one-mapped (is_on key) (with_session ended) (λ t. refl) ts;
    }

-- whether one of a new key is of another one
here-on : (key other : ℕ) (ts : List Story) → (other == key) ≡ true
    → (list_any (is_on other) ts || (key == other)) ≡ true
here-on key other ts e =
    ap (λ b. list_any (is_on other) ts || b) (eq-eqb key other (sym (eqb-true other key e)))
    ∙ or-true (list_any (is_on other) ts)

there-on : (key other : ℕ) (ts : List Story) → (other == key) ≡ false
    → (list_any (is_on other) ts || (key == other)) ≡ list_any (is_on other) ts
there-on key other ts e =
    ap (λ b. list_any (is_on other) ts || b) (other-key key other e) ∙ or-false (list_any (is_on other) ts)

-- a new session of a free key, and its client
pub added-kept : (h : HubState as_reported) (key : ℕ) (c : ClientState) (new : Story) (ts : List Story)
    → h.clients key ≡ None → new.session.client ≡ key → new.session.ended ≡ false → IsIn (put h key (Some c)) new
    → IsKept h ts → IsKept (put h key (Some c)) (ts ++ new ∷ [])
added-kept h key c new ts free client live here k =
    let g = put h key (Some c) in
    let none : list_any (is_on key) ts ≡ false = sym (k.keys key) ∙ ap is_some free in
    let is : (other : ℕ) → is_on other new ≡ (key == other) =
    λ other. ap (λ b. not b && (new.session.client == other)) live ∙ ap (λ n. n == other) client in
    let pushed : (other : ℕ) → list_any (is_on other) (ts ++ new ∷ []) ≡ (list_any (is_on other) ts || (key == other)) =
    λ other. any-pushed (is_on other) ts new ∙ ap (λ b. list_any (is_on other) ts || b) (is other) in
    record {
      acts = k.acts;
      each = all-push (IsIn g) ts new
          (all-each (IsIn h) (IsIn g) (λ t i. still-in h key (Some c) t
          (λ d alive at. at-known h.clients key (Some c) t.session.client d free at) i) ts k.each)
          here;
      keys = λ other.
          by-key h.clients key (Some c) other (other == key) (list_any (is_on other) (ts ++ new ∷ [])) refl
          (λ same. sym (pushed other ∙ here-on key other ts same))
          (λ apart. k.keys other ∙ sym (pushed other ∙ there-on key other ts apart));
      one = λ other. one-pushed (is_on other) ts new (k.one other)
          (λ on. subst (λ n. list_any (is_on n) ts ≡ false) (sym client ∙ on-key other new on) none);
    }

pub attached-kept : (h : HubState as_reported) (key : ℕ) (ts : List Story) → h.clients key ≡ None → IsKept h ts
    → IsKept (put h key (Some new_client)) (ts ++ record { session = begun h key; entries = [] } ∷ [])
attached-kept h key ts free k =
    added-kept h key new_client (record { session = begun h key; entries = [] }) ts free refl refl
    (begun-in h key k.acts) k

-- a fork of a known client
abbrev pub branch : ℕ → ClientState → Story → Story
branch key c t = with_session (branched key c.owed) t

forked-in : (h : HubState as_reported) (old key : ℕ) (c : ClientState) (t : Story) → h.clients old ≡ Some c → IsIn h t
    → is_on old t ≡ true → IsIn (put h key (Some (forked c))) (branch key c t)
forked-in h old key c t at k on =
    let rows = h.parser.rows in
    let cols = h.parser.cols in
    let alive = on-live old t on in
    let s = served-as rows cols h.clients old t c (on-key old t on) at (k.reported.served alive) in
    let bytes = append-nil (t.session.pumped ++ c.owed) ∙ s.bytes in
    record {
      reported = record {
        height = k.reported.height;
        width = k.reported.width;
        entries = k.reported.entries;
        served = λ _. (
          forked c,
          at-key h.clients key (Some (forked c)),
          record {
            bytes = bytes;
            read = last_text [] t.entries;
            owed = append-nil (last_text [] t.entries);
            base = s.base;
          },
        );
        left = [];
        prefix = bytes;
      };
      size = λ _. k.size alive;
    }

pub forked-kept : (h : HubState as_reported) (old key : ℕ) (c : ClientState) (ts : List Story) → h.clients old ≡ Some c
    → h.clients key ≡ None → IsKept h ts
    → IsKept (put h key (Some (forked c)))
    (ts ++ map (with_session (branched key (bytes_owed (h.clients old)))) (last_that (is_on old) ts))
forked-kept h old key c ts at free k =
    let any : list_any (is_on old) ts ≡ true = sym (k.keys old) ∙ ap is_some at in
    let f = found (is_on old) (IsIn h) ts k.each any in
    let g = put h key (Some (forked c)) in
    subst (λ o. IsKept g (ts ++ map (with_session (branched key (bytes_owed o))) (last_that (is_on old) ts))) (sym at)
    (subst (λ xs. IsKept g (ts ++ map (branch key c) xs)) (sym f.last)
    (added-kept h key (forked c) (branch key c f.item) ts free refl refl (forked-in h old key c f.item at f.holds f.passes)
    k))

-- the session of a known client changes, and stays on its key
module _ (h : HubState as_reported) (key : ℕ) (c new : ClientState) (f : Story → Story) (at : h.clients key ≡ Some c)
    (same : (k : ℕ) (t : Story) → is_on k (f t) ≡ is_on k t)
    (goes : (t : Story) → IsIn h t → is_on key t ≡ true → IsIn (put h key (Some new)) (f t)) where
  picked-in : (b : Bool) (t : Story) → is_on key t ≡ b → IsIn h t → IsIn (put h key (Some new)) (if b then f t else t)
  picked-in true t e i = goes t i e
  picked-in false t e i = off-in h key (Some new) t e i

  slot-kept : (ts : List Story) → IsKept h ts → IsKept (put h key (Some new)) (change_last (is_on key) f ts)
  slot-kept ts k =
      let change = pick (is_on key) f in
      let g = put h key (Some new) in
      subst (IsKept g) (sym (only-changed (is_on key) f ts (k.one key))) (record {
        acts = k.acts;
        each = all-map (IsIn h) (IsIn g) change (λ t i. picked-in (is_on key t) t refl i) ts k.each;
        keys = λ other.
            by-key h.clients key (Some new) other (other == key) (list_any (is_on other) ts) refl
            (λ e. sym (ap (λ o. is_some o) (ap h.clients (eqb-true other key e) ∙ at)) ∙ k.keys other)
            (λ e. k.keys other)
            ∙ sym (any-mapped (is_on other) (is_on other) change (picked-on key f same other) ts);
        one = λ other. one-mapped (is_on other) (is_on other) change (picked-on key f same other) ts (k.one other);
      })

-- the session of a key ends
module _ (h : HubState as_reported) (key : ℕ) where
  gone-in : (b : Bool) (t : Story) → is_on key t ≡ b → IsIn h t
      → IsIn (put h key None) (if b then with_session ended t else t)
  gone-in true t e i = ended-in h (put h key None) t refl refl i
  gone-in false t e i = off-in h key None t e i

  ends-one : (other : ℕ) (b : Bool) (ts : List Story) → (other == key) ≡ b → AtMostOne (is_on other) ts
      → AtMostOne (is_on other) (map (pick (is_on key) (with_session ended)) ts)
  ends-one other true ts e one =
      subst (λ n. AtMostOne (is_on n) (map (pick (is_on key) (with_session ended)) ts)) (sym (eqb-true other key e))
      (no-one-mapped (is_on key) (pick (is_on key) (with_session ended)) (ends-on key) ts)
  ends-one other false ts e one =
      one-mapped (is_on other) (is_on other) (pick (is_on key) (with_session ended)) (ends-other key other e) ts one

  none-left : (other : ℕ) (ts : List Story) → (other == key) ≡ true
      → list_any (is_on other) (map (pick (is_on key) (with_session ended)) ts) ≡ false
  none-left other ts e =
      subst (λ n. list_any (is_on n) (map (pick (is_on key) (with_session ended)) ts) ≡ false)
      (sym (eqb-true other key e))
      (none-mapped (is_on key) (pick (is_on key) (with_session ended)) (ends-on key) ts)

  gone-kept : (ts : List Story) → IsKept h ts
      → IsKept (put h key None) (change_last (is_on key) (with_session ended) ts)
  gone-kept ts k =
      let change = pick (is_on key) (with_session ended) in
      let g = put h key None in
      subst (IsKept g) (sym (only-changed (is_on key) (with_session ended) ts (k.one key))) (record {
        acts = k.acts;
        each = all-map (IsIn h) (IsIn g) change (λ t i. gone-in (is_on key t) t refl i) ts k.each;
        keys = λ other.
            by-key h.clients key None other (other == key) (list_any (is_on other) (map change ts)) refl
            (λ e. sym (none-left other ts e))
            (λ e. k.keys other ∙ sym (any-mapped (is_on other) (is_on other) change (ends-other key other e) ts));
        one = λ other. ends-one other (other == key) ts refl (k.one other);
      })

-- ---- calls

module _ (h : HubState as_reported) (ts : List Story) (k : IsKept h ts) where
  pub does-kept : (call : Call) (reply : Reply) (g : HubState as_reported) → IsCall call → Does h call reply g
      → IsKept g (stories_after h call reply ts)
  does-kept call reply g is (refuses (Frame key) e never) = absurd never
  does-kept call reply g is (refuses (Pump key takes) e never) = absurd never
  does-kept call reply g is (refuses _ e idle) = k
  does-kept call reply g is (feeds bytes) = fed-kept h bytes ts k
  does-kept call reply g is (fails bytes) = parser-kept h h.parser.acts true ts k.acts refl k
  does-kept call reply g is (resizes high wide) = resized-kept h high wide ts is k
  does-kept call reply g is (attaches key free) = attached-kept h key ts free k
  does-kept call reply g is (detaches key c at) = gone-kept h key ts k
  does-kept call reply g is (answers key c answer at due) =
      let new = after_answer (size_in h) (shown_in h) c answer in
      let change = λ (o : Option ClientState). change_last (is_on key) (with_entries (entries_of h o answer)) ts in
      subst (λ o. IsKept (put h key (Some new)) (change o)) (sym at)
      (slot-kept h key c new (with_entries (entries_of h (Some c) answer)) at (λ n t. refl)
      (λ t i on. answered-in h key c answer t k.acts at due i on) ts k)
  does-kept call reply g is (declines key e can) = k
  does-kept call reply g is (pumps key takes reply' c at can) =
      let change = λ (o : Option ClientState).
      change_last (is_on key) (with_session (grown (bytes_taken takes o))) ts in
      subst (λ o. IsKept (put h key (Some (left_in takes c))) (change o)) (sym at)
      (slot-kept h key c (left_in takes c) (with_session (grown (bytes_taken takes (Some c)))) at
      (λ m t. refl) (λ t i on. pumped-in h key c (taken_by takes (length c.owed)) t at i on) ts k)
  does-kept call reply g is (misses key takes reply' free) =
      let none : list_any (is_on key) ts ≡ false = sym (k.keys key) ∙ ap is_some free in
      subst (IsKept h)
      (sym (none-changed (is_on key) (with_session (grown (bytes_taken takes (h.clients key)))) ts none)) k
  does-kept call reply g is (forks old key c at free) = forked-kept h old key c ts at free k
  does-kept call reply g is (draws key r f) = k

-- ---- runs

-- a run, call by call, with what is kept before each
pub data Went : HubState as_reported → List Story → List Call → List Reply → HubState as_reported → List Story
    → Type 0 where
  over : {h : HubState as_reported} {ts : List Story} → IsKept h ts → Went h ts [] [] h ts
  called : {h k : HubState as_reported} {ts us : List Story} {call : Call} {reply : Reply} {calls : List Call}
      {replies : List Reply} (g : HubState as_reported) → IsKept h ts → Does h call reply g → IsCall call
      → Went g (stories_after h call reply ts) calls replies k us → Went h ts (call ∷ calls) (reply ∷ replies) k us

pub run-went : (h k : HubState as_reported) (ts us : List Story) (calls : List Call) (replies : List Reply)
    → IsKept h ts → RunsReported h ts calls replies k us → Went h ts calls replies k us
run-went h k ts us [] [] kept run =
    subst (λ vs. Went h ts [] [] k vs) (sym run.1)
    (subst (λ x. Went h ts [] [] x ts) (sym run.0) (over kept))
run-went h k ts us [] (reply ∷ replies) kept run = absurd run
run-went h k ts us (call ∷ calls) [] kept run = absurd run
run-went h k ts us (call ∷ calls) (reply ∷ replies) kept (g, is, serves, later) =
    let does = serves-does h g call reply serves in
    called g kept does is (run-went g k (stories_after h call reply ts) us calls replies
    (does-kept h ts kept call reply g is does) later)

pub does-first : (h : HubState as_reported) (call : Call) (reply : Reply) (g : HubState as_reported) → Does h call reply g
    → (g.parser.rows ≡ h.parser.rows) × (g.parser.cols ≡ h.parser.cols)
does-first h call reply g (refuses c e idle) = (refl, refl)
does-first h call reply g (feeds bytes) = (refl, refl)
does-first h call reply g (fails bytes) = (refl, refl)
does-first h call reply g (resizes rows cols) = (refl, refl)
does-first h call reply g (attaches key free) = (refl, refl)
does-first h call reply g (detaches key c at) = (refl, refl)
does-first h call reply g (answers key c answer at due) = (refl, refl)
does-first h call reply g (declines key e can) = (refl, refl)
does-first h call reply g (pumps key takes r c at can) = (refl, refl)
does-first h call reply g (misses key takes r free) = (refl, refl)
does-first h call reply g (forks old key c at free) = (refl, refl)
does-first h call reply g (draws key r f) = (refl, refl)

-- what is kept after it, and the first size stays
pub went-kept : (h k : HubState as_reported) (ts us : List Story) (calls : List Call) (replies : List Reply)
    → Went h ts calls replies k us
    → IsKept k us × (k.parser.rows ≡ h.parser.rows) × (k.parser.cols ≡ h.parser.cols)
went-kept h k ts us calls replies (over kept) = (kept, refl, refl)
went-kept h k ts us (call ∷ calls) (reply ∷ replies) (called g kept does is later) =
    let first = does-first h call reply g does in
    let rest = went-kept g k (stories_after h call reply ts) us calls replies later in
    (rest.0, rest.1 ∙ first.0, rest.2 ∙ first.1)

pub fresh-kept : (rows cols : ℕ) → IsSide rows → IsSide cols → IsKept (fresh rows cols) []
fresh-kept rows cols height width = record {
  acts = record { height = height; width = width; few = omega arith; each = All-nil IsAct };
  each = tt;
  keys = λ key. refl;
  one = λ key. tt;
}

-- a run of a new hub
pub fresh-went : (rows cols : ℕ) (hub : HubState as_reported) (stories : List Story) (calls : List Call)
    (replies : List Reply) → IsSide rows → IsSide cols → RunsReported (fresh rows cols) [] calls replies hub stories
    → Went (fresh rows cols) [] calls replies hub stories
fresh-went rows cols hub stories calls replies height width ran =
    run-went (fresh rows cols) hub [] stories calls replies (fresh-kept rows cols height width) ran

pub sessions-reported : EachSessionIsReported
sessions-reported rows cols calls replies n t s =
    let run = went-kept (fresh rows cols) s.hub [] s.stories calls replies
    (fresh-went rows cols s.hub s.stories calls replies s.height s.width s.ran) in
    let reported = (all-at (IsIn s.hub) s.stories n t run.0.each s.is).reported in
    subst (λ c. IsReported rows c s.hub.clients t) run.2
    (subst (λ r. IsReported r s.hub.parser.cols s.hub.clients t) run.1 reported)

pub clients-have-sessions : EachClientHasASession
clients-have-sessions rows cols calls replies hub stories key height width ran =
    let kept = (went-kept (fresh rows cols) hub [] stories calls replies
    (fresh-went rows cols hub stories calls replies height width ran)).0 in
    (kept.keys key, kept.one key)
