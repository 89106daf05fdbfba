-- The rows and the moments of a recording, screen by screen.
use Rattle.std.proofs.Common.{◌≡◌, ◌≢◌, ◌⊎◌, ◌<◌, ◌≤◌, ◌+◌, ◌++◌, ◌∙◌, ℕ, zero, suc, List, [], ◌∷◌, Bool, true, false, Some}
use Rattle.std.proofs.Common.{Err, IfErr, Ok, Result, ap, ap₂, append-nil, append_assoc, arith, get_or, inl, inr, length}
use Rattle.std.proofs.Common.{length-append, map, not, refl, slice_get, subst, sym, true≢false}
use Rattle.std.specs.List.{All}
use Rattle.std.specs.Option.{option_map_or}
use Rattle.std.proofs.lemmas.Grind.{flat_map-append}
use Rattle.std.proofs.lemmas.List.{get_or_append_left, length-map, map-append}
use Rattle.std.proofs.lemmas.List.Elements.{All-append, All-cons, All-head, All-nil, All-tail, All-weaker}
use Rattle.std.proofs.lemmas.Option.{get_or_from_slice_get, slice_get_read, slice_get_within}
use Rattle.picture_page.specs.Page.{Adds}
use Rattle.row_pictures.specs.Text.{row_text}
use Rattle.row_pictures.specs.declared.look.Look.{Look}
use Rattle.screen_model.specs.State.{State}
use Rattle.recordings.specs.declared.recording.Event.{Event}
use Rattle.recordings.specs.declared.recording.ScreenSize.{ScreenSize}
use Rattle.recorded_screen.specs.Film.{is_moment, reached, state_after}
use Rattle.recorded_screen.specs.Picture.{cells_shown}
use Rattle.picture_page.proofs.PageLemmas.{adds_none, after_markup}
use Rattle.player_page.specs.Lines.{AreLines, IsLine, Told, moment_at, rows_at}
use Rattle.player_page.specs.Lines.AreLines.{line}
use Rattle.player_page.specs.Moments.{AreMoments, ArePainted, IsPainted, Moment}
use Rattle.player_page.specs.Moments.AreMoments.{next, passed, same}
use Rattle.player_page.specs.Pages.{HasLongPart, IsRowOfSome, IsTable, row_bytes, rows_bytes}
use Rattle.player_page.specs.Rows.{AddsRows, IsRowOf}
use Rattle.player_page.specs.Strips.{AreNumbers, Draws, FailsFor, IsDrawn, IsDue, IsStrip, TellsLine, added, table_of}
use Rattle.player_page.specs.declared.error.PlayerError.{PlayerError}
use Rattle.player_page.specs.declared.error.PlayerError.TheVariants.{TooLong}
use Rattle.player_page.specs.declared.strip.Strip.{Strip}
use Rattle.player_page.proofs.LineLemmas.{at_or_below}
use Rattle.player_page.proofs.RowsLemmas.{no_rows, one_row, rows_both}
use Rattle.player_page.proofs.TableLemmas.{known_still, rows_at_still, same_numbers}

-- ---- a table that gets longer

got_below : {A : Type 0} (xs : List A) (x : A) (i : ℕ) → i < length xs
    → slice_get (xs ++ x ∷ []) i ≡ slice_get xs i
got_below [] x i lt = absurd (omega arith)
got_below (y ∷ ys) x zero lt = refl
got_below (y ∷ ys) x (suc i) lt = got_below ys x i (omega arith)

pub got_last : {A : Type 0} (xs : List A) (x : A) → slice_get (xs ++ x ∷ []) (length xs) ≡ Some x
got_last [] x = refl
got_last (y ∷ ys) x = got_last ys x

table_more : (look : Look) (size : ScreenSize) (events : List Event) (table : List (List ℕ)) (row : List ℕ)
    → IsTable look size events table → IsRowOfSome look size events row → ((i : ℕ) → slice_get table i ≢ Some row)
    → IsTable look size events (table ++ row ∷ [])
table_more look size events table row is painted absent = record {
  different = λ i j r at_i at_j. by i j r (place i r at_i) (place j r at_j) at_i at_j;
  painted = All-append (IsRowOfSome look size events) table (row ∷ []) is.painted
      (All-cons (IsRowOfSome look size events) row [] painted (All-nil (IsRowOfSome look size events)));
}
  where
    place : (i : ℕ) (r : List ℕ) → slice_get (table ++ row ∷ []) i ≡ Some r → (i < length table) ⊎ (i ≡ length table)
    place i r at =
        at_or_below i (length table)
        (let lt = slice_get_within (table ++ row ∷ []) i r at in
        let len = length-append table (row ∷ []) in omega arith)

    is_last : (j : ℕ) (r : List ℕ) → j ≡ length table → slice_get (table ++ row ∷ []) j ≡ Some r → Some r ≡ Some row
    is_last j r last at =
        sym at ∙ ap (λ (k : ℕ). slice_get (table ++ row ∷ []) k) last ∙ got_last table row

    by : (i j : ℕ) (r : List ℕ) → (i < length table) ⊎ (i ≡ length table) → (j < length table) ⊎ (j ≡ length table)
        → slice_get (table ++ row ∷ []) i ≡ Some r → slice_get (table ++ row ∷ []) j ≡ Some r → i ≡ j
    by i j r (inl i_lt) (inl j_lt) at_i at_j =
        is.different i j r (sym (got_below table row i i_lt) ∙ at_i) (sym (got_below table row j j_lt) ∙ at_j)
    by i j r (inl i_lt) (inr j_last) at_i at_j =
        absurd (absent i (sym (got_below table row i i_lt) ∙ at_i ∙ is_last j r j_last at_j))
    by i j r (inr i_last) (inl j_lt) at_i at_j =
        absurd (absent j (sym (got_below table row j j_lt) ∙ at_j ∙ is_last i r i_last at_i))
    by i j r (inr i_last) (inr j_last) at_i at_j = i_last ∙ sym j_last

-- a row of the screen after n events may be drawn
pub drawn_more : (look : Look) (size : ScreenSize) (events : List Event) (n r : ℕ) (s : State) (row : List ℕ)
    (old new : Strip) (number : ℕ) → s ≡ state_after size events n → IsPainted look s r row
    → Adds [] row (row_text (cells_shown s.shown r)) → Draws row old new number → IsDrawn look size events old
    → IsDrawn look size events new
drawn_more look size events n r s row old new number after painted text draws drawn = by draws.is_new refl
  where
    rows : new.rows ≡ rows_bytes (table_of new)
    rows = draws.rows ∙ ap (λ xs. xs ++ rows_bytes (added draws.is_new row)) drawn.rows
        ∙ sym (flat_map-append row_bytes (table_of old) (added draws.is_new row))
        ∙ ap rows_bytes (sym draws.takes.is)

    some : IsRowOfSome look size events row
    some = record { count = n; row = r; is = subst (λ (z : State). IsPainted look z r row) after painted }

    shown : IsRowOf size.rows.value size.cols.value events (cells_shown s.shown r)
    shown = inl (n, record { row = r; is = ap (λ (z : State). cells_shown z.shown r) after })

    by : (b : Bool) → draws.is_new ≡ b → IsDrawn look size events new
    by true one = record {
      table = subst (IsTable look size events)
          (sym (draws.takes.is ∙ ap (λ (b : Bool). table_of old ++ added b row) one))
          (table_more look size events (table_of old) row drawn.table some (draws.takes.absent one));
      rows = rows;
      text = rows_both size.rows.value size.cols.value events [] old.rows new.rows drawn.text
          (one_row size.rows.value size.cols.value events old.rows new.rows (cells_shown s.shown r) shown
          (draws.text one (row_text (cells_shown s.shown r)) text));
    }
    by false none = record {
      table = subst (IsTable look size events)
          (sym (draws.takes.is ∙ ap (λ (b : Bool). table_of old ++ added b row) none ∙ append-nil (table_of old)))
          drawn.table;
      rows = rows;
      text = subst (AddsRows size.rows.value size.cols.value events [])
          (sym (draws.rows ∙ ap (λ (b : Bool). old.rows ++ rows_bytes (added b row)) none ∙ append-nil old.rows))
          drawn.text;
    }

-- nothing is drawn
pub nothing_drawn : (look : Look) (size : ScreenSize) (events : List Event) (s : Strip) → s.rows ≡ []
    → table_of s ≡ [] → IsDrawn look size events s
nothing_drawn look size events s rows table = record {
  table = subst (IsTable look size events) (sym table) (record {
    different = λ i j row at_i at_j. absurd (cc);
    painted = All-nil (IsRowOfSome look size events);
  });
  rows = rows ∙ ap rows_bytes (sym table);
  text = subst (AddsRows size.rows.value size.cols.value events []) (sym rows)
      (no_rows size.rows.value size.cols.value events []);
}

-- ---- the numbers of the rows of a screen

pub no_numbers : (look : Look) (s : State) (strip : Strip) → AreNumbers look s strip strip []
no_numbers look s strip = record {
  more = [];
  longer = sym (append-nil (table_of strip));
  known = All-nil (λ number. number < length (table_of strip));
  painted = λ r lt. absurd (omega arith);
  moments = refl;
  last = refl;
}

pub one_number : (look : Look) (s : State) (a b c : Strip) (numbers : List ℕ) (r number : ℕ) (row : List ℕ)
    → length numbers ≡ r → AreNumbers look s a b numbers → Draws row b c number → IsPainted look s r row
    → AreNumbers look s a c (numbers ++ number ∷ [])
one_number look s a b c numbers r number row count are draws painted = record {
  more = are.more ++ more;
  longer = draws.takes.is ∙ ap (λ (xs : List (List ℕ)). xs ++ more) are.longer
      ∙ append_assoc (table_of a) are.more more;
  known = All-append (λ k. k < length (table_of c)) numbers (number ∷ []) known
      (All-cons (λ k. k < length (table_of c)) number [] (slice_get_within (table_of c) number row draws.takes.at)
      (All-nil (λ k. k < length (table_of c))));
  painted = λ i lt. by i (at_or_below i (length numbers)
      (let len = length-append numbers (number ∷ []) in omega arith));
  moments = draws.moments ∙ are.moments;
  last = draws.last ∙ are.last;
}
  where
    more : List (List ℕ)
    more = added draws.is_new row

    known : All (λ k. k < length (table_of c)) numbers
    known = subst (λ (t : List (List ℕ)). All (λ k. k < length t) numbers) (sym draws.takes.is)
        (known_still (table_of b) more numbers are.known)

    rows : rows_at (table_of c) (numbers ++ number ∷ []) ≡ rows_at (table_of b) numbers ++ row ∷ []
    rows = map-append (λ (n : ℕ). get_or (table_of c) n []) numbers (number ∷ [])
        ∙ ap₂ (λ (xs : List (List ℕ)) (x : List ℕ). xs ++ x ∷ [])
        (ap (λ (t : List (List ℕ)). rows_at t numbers) draws.takes.is
        ∙ rows_at_still (table_of b) more numbers are.known)
        (get_or_from_slice_get (table_of c) number row [] draws.takes.at)

    len : length (rows_at (table_of b) numbers) ≡ length numbers
    len = length-map numbers (λ (n : ℕ). get_or (table_of b) n [])

    by : (i : ℕ) → (i < length numbers) ⊎ (i ≡ length numbers)
        → IsPainted look s i (get_or (rows_at (table_of c) (numbers ++ number ∷ [])) i [])
    by i (inl lt) = subst (IsPainted look s i)
        (sym (ap (λ (xs : List (List ℕ)). get_or xs i []) rows
        ∙ get_or_append_left (rows_at (table_of b) numbers) (row ∷ []) [] i (let equal = len in omega arith)))
        (are.painted i lt)
    by i (inr is) = subst (IsPainted look s i)
        (sym (ap (λ (xs : List (List ℕ)). get_or xs i []) rows
        ∙ ap (λ (k : ℕ). get_or (rows_at (table_of b) numbers ++ row ∷ []) k []) (is ∙ sym len)
        ∙ get_or_from_slice_get (rows_at (table_of b) numbers ++ row ∷ []) (length (rows_at (table_of b) numbers)) row []
        (got_last (rows_at (table_of b) numbers) row)))
        (subst (λ (k : ℕ). IsPainted look s k row) (sym (is ∙ count)) painted)

-- ---- moments

pub no_strip : (look : Look) (size : ScreenSize) (events : List Event) (s : Strip) → s.rows ≡ [] → table_of s ≡ []
    → s.moments ≡ [] → s.last.items ≡ [] → IsStrip look size events 0 s
no_strip look size events s rows table moments last = record {
  drawn = nothing_drawn look size events s rows table;
  plays = record {
    told = [];
    last = [];
    tell = subst (λ (ls : List ℕ). AreLines ls [] []) (sym moments) AreLines.none;
    known = All-nil (λ (t : Told). All (λ number. number < length (table_of s)) t.numbers);
    moments = AreMoments.none;
  };
  last = sym last;
  known = subst (All (λ number. number < length (table_of s))) (sym last)
      (All-nil (λ number. number < length (table_of s)));
  adds = subst (λ (ls : List ℕ). Adds [] ls []) (sym moments) (adds_none []);
}

moments_still : (table more : List (List ℕ)) (told : List Told)
    → All (λ t. All (λ number. number < length table) t.numbers) told
    → map (moment_at (table ++ more)) told ≡ map (moment_at table) told
moments_still table more [] known = refl
moments_still table more (t ∷ ts) known =
    let one = All-head (λ (u : Told). All (λ number. number < length table) u.numbers) t ts known in
    let rest = All-tail (λ (u : Told). All (λ number. number < length table) u.numbers) t ts known in
    ap₂ (λ (rows : List (List ℕ)) (ms : List Moment). record { time = t.time; rows = rows } ∷ ms)
    (rows_at_still table more t.numbers one) (moments_still table more ts rest)

-- where the table alone gets longer
pub strip_longer : (look : Look) (size : ScreenSize) (events : List Event) (n : ℕ) (s : State) (old new : Strip)
    (numbers : List ℕ) → AreNumbers look s old new numbers → IsDrawn look size events new
    → IsStrip look size events n old → IsStrip look size events n new
strip_longer look size events n s old new numbers are drawn is = let told = is.plays.told in record {
  drawn = drawn;
  plays = record {
    told = told;
    last = is.plays.last;
    tell = subst (λ (ls : List ℕ). AreLines ls told is.plays.last) (sym are.moments) is.plays.tell;
    known = subst (λ (t : List (List ℕ)). All (λ (u : Told). All (λ number. number < length t) u.numbers) told)
        (sym are.longer)
        (All-weaker (λ (u : Told). All (λ number. number < length (table_of old)) u.numbers)
        (λ (u : Told). All (λ number. number < length (table_of old ++ are.more)) u.numbers)
        (λ u known. known_still (table_of old) are.more u.numbers known) told is.plays.known);
    moments = subst (λ (t : List (List ℕ)). AreMoments look size events n (map (moment_at t) told)
        (rows_at t is.plays.last)) (sym are.longer)
        (subst (λ (ms : List Moment). AreMoments look size events n ms (rows_at (table_of old ++ are.more) is.plays.last))
        (sym (moments_still (table_of old) are.more told is.plays.known))
        (subst (AreMoments look size events n (map (moment_at (table_of old)) told))
        (sym (rows_at_still (table_of old) are.more is.plays.last last_known)) is.plays.moments));
  };
  last = is.last ∙ ap (λ v. v.items) (sym are.last);
  known = subst (λ (t : List (List ℕ)). All (λ number. number < length t) new.last.items) (sym are.longer)
      (subst (λ (ns : List ℕ). All (λ number. number < length (table_of old ++ are.more)) ns)
      (ap (λ v. v.items) (sym are.last)) (known_still (table_of old) are.more old.last.items is.known));
  adds = subst (λ (ls : List ℕ). Adds [] ls []) (sym are.moments) is.adds;
}
  where
    last_known : All (λ number. number < length (table_of old)) is.plays.last
    last_known = subst (λ (ns : List ℕ). All (λ number. number < length (table_of old)) ns) (sym is.last) is.known

-- no moment, since the next event comes at the same time
pub strip_passed : (look : Look) (size : ScreenSize) (events : List Event) (n : ℕ) (s : Strip)
    → is_moment events n ≡ false → IsStrip look size events n s → IsStrip look size events (suc n) s
strip_passed look size events n s followed is = record {
  drawn = is.drawn;
  plays = record {
    told = is.plays.told;
    last = is.plays.last;
    tell = is.plays.tell;
    known = is.plays.known;
    moments = passed followed is.plays.moments;
  };
  last = is.last;
  known = is.known;
  adds = is.adds;
}

-- all rows of the screen that is due
are_painted : (look : Look) (size : ScreenSize) (events : List Event) (n time : ℕ) (s : State) (old strip : Strip)
    (numbers : List ℕ) → IsDue size events n time s → AreNumbers look s old strip numbers
    → length numbers ≡ s.shown.height
    → ArePainted look (state_after size events n) (rows_at (table_of strip) numbers)
are_painted look size events n time s old strip numbers due are count =
    subst (λ (z : State). ArePainted look z (rows_at (table_of strip) numbers)) due.state (record {
      count = len ∙ count;
      painted = λ r lt. are.painted r (let equal = len in omega arith);
    })
  where
    len : length (rows_at (table_of strip) numbers) ≡ length numbers
    len = length-map numbers (λ (k : ℕ). get_or (table_of strip) k [])

-- no moment, since all is as before
pub strip_same : (look : Look) (size : ScreenSize) (events : List Event) (n time : ℕ) (s : State) (old strip : Strip)
    (numbers : List ℕ) → IsDue size events n time s → AreNumbers look s old strip numbers
    → length numbers ≡ s.shown.height → numbers ≡ strip.last.items → IsStrip look size events n strip
    → IsStrip look size events (suc n) strip
strip_same look size events n time s old strip numbers due are count unchanged is = record {
  drawn = is.drawn;
  plays = record {
    told = is.plays.told;
    last = is.plays.last;
    tell = is.plays.tell;
    known = is.plays.known;
    moments = same due.moment is.plays.moments
        (subst (λ (ns : List ℕ). ArePainted look (state_after size events n) (rows_at (table_of strip) ns))
        (unchanged ∙ sym is.last)
        (are_painted look size events n time s old strip numbers due are count));
  };
  last = is.last;
  known = is.known;
  adds = is.adds;
}

-- a moment
pub strip_next : (look : Look) (size : ScreenSize) (events : List Event) (n time : ℕ) (s : State) (old strip new : Strip)
    (numbers : List ℕ) → IsDue size events n time s → AreNumbers look s old strip numbers
    → length numbers ≡ s.shown.height → numbers ≢ strip.last.items → TellsLine time numbers strip new
    → IsStrip look size events n strip → IsStrip look size events (suc n) new
strip_next look size events n time s old strip new numbers due are count other tells is = record {
  drawn = record {
    table = subst (IsTable look size events) (sym table) is.drawn.table;
    rows = tells.rows ∙ is.drawn.rows ∙ ap rows_bytes (sym table);
    text = subst (AddsRows size.rows.value size.cols.value events []) (sym tells.rows) is.drawn.text;
  };
  plays = record {
    told = is.plays.told ++ one ∷ [];
    last = numbers;
    tell = subst (λ (ls : List ℕ). AreLines ls (is.plays.told ++ one ∷ []) numbers) (sym tells.joined)
        (line time numbers tells.bytes is.plays.tell
        (subst (λ (ns : List ℕ). IsLine time ns numbers tells.bytes) (sym is.last) tells.is));
    known = subst (λ (t : List (List ℕ)). All (λ (u : Told). All (λ number. number < length t) u.numbers)
        (is.plays.told ++ one ∷ [])) (sym table)
        (All-append (λ (u : Told). All (λ number. number < length (table_of strip)) u.numbers) is.plays.told (one ∷ [])
        is.plays.known (All-cons (λ (u : Told). All (λ number. number < length (table_of strip)) u.numbers) one []
        are.known (All-nil (λ (u : Told). All (λ number. number < length (table_of strip)) u.numbers))));
    moments = subst (λ (t : List (List ℕ)). AreMoments look size events (suc n)
        (map (moment_at t) (is.plays.told ++ one ∷ [])) (rows_at t numbers)) (sym table)
        (subst (λ (ms : List Moment). AreMoments look size events (suc n) ms (rows_at (table_of strip) numbers))
        (sym moments)
        (next (rows_at (table_of strip) numbers) due.moment is.plays.moments
        (are_painted look size events n time s old strip numbers due are count) differ));
  };
  last = sym tells.last;
  known = subst (λ (t : List (List ℕ)). All (λ number. number < length t) new.last.items) (sym table)
      (subst (λ (ns : List ℕ). All (λ number. number < length (table_of strip)) ns) (sym tells.last) are.known);
  adds = after_markup [] strip.moments new.moments [] is.adds tells.adds;
}
  where
    one : Told
    one = record { time = time; numbers = numbers }

    table : table_of new ≡ table_of strip
    table = ap (λ k. map (λ v. v.items) k.keys) tells.known

    last_known : All (λ number. number < length (table_of strip)) is.plays.last
    last_known = subst (λ (ns : List ℕ). All (λ number. number < length (table_of strip)) ns) (sym is.last) is.known

    differ : rows_at (table_of strip) numbers ≢ rows_at (table_of strip) is.plays.last
    differ = λ rows. other (same_numbers (table_of strip) is.drawn.table.different numbers is.plays.last are.known
        last_known rows ∙ is.last)

    moments : map (moment_at (table_of strip)) (is.plays.told ++ one ∷ [])
        ≡ map (moment_at (table_of strip)) is.plays.told
        ++ record { time = reached events n; rows = rows_at (table_of strip) numbers } ∷ []
    moments = map-append (moment_at (table_of strip)) is.plays.told (one ∷ [])
        ∙ ap (λ (t : ℕ). map (moment_at (table_of strip)) is.plays.told
        ++ record { time = t; rows = rows_at (table_of strip) numbers } ∷ []) due.at

-- ---- the screens that are due

pub is_due : (b moment : Bool) → b ≡ not moment → b ≡ false → moment ≡ true
is_due b true is off = refl
is_due b false is off = absurd (true≢false (sym is ∙ off))

pub not_due : (b moment : Bool) → b ≡ not moment → b ≡ true → moment ≡ false
not_due b true is on = absurd (true≢false (sym on ∙ is))
not_due b false is on = refl

pub due_at_first : (size : ScreenSize) (events : List Event) (s : State) → is_moment events 0 ≡ true
    → s ≡ state_after size events 0 → IsDue size events 0 0 s
due_at_first size events s moment state = record {
  within = omega arith;
  moment = moment;
  at = refl;
  state = state;
}

pub due_next : (size : ScreenSize) (events : List Event) (i : ℕ) (e : Event) (s : State) → i < length events
    → e ≡ get_or events i e → is_moment events (i + 1) ≡ true → s ≡ state_after size events (i + 1)
    → IsDue size events (i + 1) e.time s
due_next size events i e s lt is moment state = record {
  within = omega arith;
  moment = moment;
  at = sym (ap (reached events) (let one : i + 1 ≡ suc i = omega arith in one)
      ∙ ap (λ o. option_map_or (λ (x : Event). x.time) o 0) (slice_get_read events (length events) i e refl lt is));
  state = state;
}

-- ---- too much

rows_at_least : (rows : List (List ℕ)) → length rows ≤ length (rows_bytes rows)
rows_at_least [] = omega arith
rows_at_least (row ∷ rows) =
    let rest = rows_at_least rows in
    let len = length-append (row_bytes row) (rows_bytes rows) in
    let first : 1 ≤ length (row_bytes row) = omega arith in
    omega arith

pub long_rows : (most : ℕ) (look : Look) (size : ScreenSize) (events : List Event) (s : Strip)
    → IsDrawn look size events s → most < length s.rows → HasLongPart most look size events
long_rows most look size events s drawn long =
    HasLongPart.rows (table_of s) drawn.table (subst (λ (xs : List ℕ). most < length xs) drawn.rows long)

-- too many rows to number them
pub many_rows : (most : ℕ) (look : Look) (size : ScreenSize) (events : List Event) (s : Strip)
    → IsDrawn look size events s → most < length (table_of s) → HasLongPart most look size events
many_rows most look size events s drawn many =
    HasLongPart.rows (table_of s) drawn.table (let least = rows_at_least (table_of s) in omega arith)

pub long_lines : (most : ℕ) (look : Look) (size : ScreenSize) (events : List Event) (n : ℕ) (s : Strip)
    → n ≤ suc (length events) → IsStrip look size events n s → most < length s.moments
    → HasLongPart most look size events
long_lines most look size events n s within is long =
    HasLongPart.lines n (table_of s) s.moments within is.plays long

-- ---- for another reason

pub fails_for : (P Q : Type 0) (e : PlayerError) → (P → Q) → FailsFor P e → FailsFor Q e
fails_for P Q e f (inl memory) = inl memory
fails_for P Q e f (inr long) = inr (long.0, f long.1)

pub fails_if_long : {T : Type 0} (r : Result T PlayerError) (P Q : Type 0) → (P → Q)
    → IfErr r (λ e. (e ≡ TooLong) × P) → IfErr r (FailsFor Q)
fails_if_long (Ok v) P Q f long = tt
fails_if_long (Err e) P Q f long = inr (long.0, f long.1)
