-- What each call does to a hub, by the library's call, and the number that it returns.
use Rattle.std.specs.Prelude.{◌≡◌, ◌≢◌, ◌⊎◌, ℕ, ◌≤◌, ◌<◌, ◌*◌, ℤ, false, List, length, drop, Option, Some, None, Ok}
use Rattle.std.specs.Prelude.{Err}
use Rattle.std.specs.Prelude.{Result, IfOk, OnOk}
use Rattle.std.specs.Prelude.{MatchOption, IsSomeAnd, is_some, if◌then◌else◌, encode_utf8_all}
use Rattle.vt100_core.specs.Grid.{visible_row_at, cell_in}
use Rattle.vt100_core.specs.Contents.{newlines_cut, text_lines}
use Rattle.screen_model.specs.Call.{ScreenView}
use Rattle.vt100.specs.Texts.{text_between}
use Rattle.termrelay.specs.declared.answer.Answer.{Answer}
use Rattle.termrelay.specs.declared.answer.Answer.TheVariants.{Difference, TooLong}
use Rattle.termrelay.specs.declared.error.HubError.{HubError}
use Rattle.termrelay.specs.Answers.{ClientState}
use Rattle.termrelay.specs.Hub as hub
use Rattle.termrelay.specs.Hub.{HubState, as_kept, IsNewHub, clients_in, Puts, OwesOneFrame, OwesLocalFrame, size_in}
use Rattle.termrelay.specs.Hub.{is_failed}
use Rattle.termrelay.specs.Hub.{screen_in}
use Rattle.termrelay.specs.Joins as joins
use Rattle.c_objects.specs.Codes.{ok, bad_size, memory, unknown_client, not_owed, no_cell, refusal_code, code_of}
use Rattle.c_objects.specs.Codes.{answer_code, frame_code}
use Rattle.c_objects.specs.Texts.{IsCopied, CopiesText}
use Rattle.c_objects.specs.Looks.{cell_of, screen_look}
use Rattle.c_objects.specs.declared.plain.CCell.{CCell}
use Rattle.c_objects.specs.declared.plain.CLook.{CLook}
use Rattle.c_objects.specs.declared.object.Object.{Object}
use Rattle.c_objects.specs.declared.object.Object.TheVariants.{Hub, View, Screen, Recording, Filter}

-- ---- new

abbrev pub IsNewHubOf : ℕ → ℕ → Object → Type 0
IsNewHubOf rows cols (Hub h) = IsNewHub rows cols h
IsNewHubOf rows cols (View v) = ⊥
IsNewHubOf rows cols (Screen m) = ⊥
IsNewHubOf rows cols (Recording r) = ⊥
IsNewHubOf rows cols (Filter f) = ⊥

-- the number if there is no new object: the size has no cells, or it has some and an allocation failed
abbrev pub IsNoObjectCode : ℕ → ℕ → ℤ → Type 0
IsNoObjectCode rows cols code =
    ((rows * cols ≡ 0) × (code ≡ bad_size)) ⊎ ((0 < rows) × (0 < cols) × (code ≡ memory))

-- ---- calls that change it

abbrev pub Feeds : List ℕ → HubState as_kept → ℤ → HubState as_kept → Type 0
Feeds bytes h code g = (answer : Result (Unit {0}) HubError) × hub.Feeds h bytes answer g × (code ≡ code_of answer)

-- a size of no cells is refused
abbrev pub Resizes : ℕ → ℕ → HubState as_kept → ℤ → HubState as_kept → Type 0
Resizes rows cols h code g =
    ((rows * cols ≡ 0) × (code ≡ bad_size) × (g ≡ h))
    ⊎ ((0 < rows) × (0 < cols) × (answer : Result (Unit {0}) HubError) × hub.Resizes h rows cols answer g
    × (code ≡ code_of answer))

-- the key is stored if there is one
abbrev pub Attached : Result ℕ HubError → ℕ → ℕ → ℤ → Type 0
Attached (Ok key) old new code = (code ≡ ok) × (new ≡ key)
Attached (Err e) old new code = (code ≡ refusal_code e) × (new ≡ old)

abbrev pub Attaches : ℕ → ℕ → HubState as_kept → ℤ → HubState as_kept → Type 0
Attaches old new h code g = (answer : Result ℕ HubError) × hub.Attaches h answer g × Attached answer old new code

-- the new client's key is stored if there is one
abbrev pub Forks : ℕ → ℕ → ℕ → HubState as_kept → ℤ → HubState as_kept → Type 0
Forks key old new h code g = (answer : Result ℕ HubError) × joins.Forks h key answer g × Attached answer old new code

abbrev pub Detaches : ℕ → HubState as_kept → ℤ → HubState as_kept → Type 0
Detaches key h code g =
    (answer : Result (Unit {0}) HubError) × hub.Detaches h key answer g × (code ≡ code_of answer)

-- a request for a frame, with all that the library's call promises of it
pub record Frames (key : ℕ) (h : HubState as_kept) (code : ℤ) (g : HubState as_kept) : Type 0 where
  pub answer : Result Answer HubError
  pub code_is : code ≡ frame_code answer
  pub frames : hub.Frames h key answer g
  pub short : OnOk answer (OwesOneFrame g key)
  pub local : IfOk answer (λ a. a ≡ Difference → OwesLocalFrame h key g)
  pub small : IfOk answer (λ a. (size_in h).rows * (size_in h).cols ≤ 2000 → a ≢ TooLong)

-- the first `count` pending bytes were sent to the client
abbrev pub Sends : ℕ → ℕ → HubState as_kept → ℤ → HubState as_kept → Type 0
Sends key count h code g =
    MatchOption (clients_in h key) ((code ≡ unknown_client) × (g ≡ h))
    (λ c. ((count ≤ length c.owed) × (code ≡ ok) × Puts h key (Some (record c { owed = drop count c.owed })) g)
    ⊎ ((length c.owed < count) × (code ≡ not_owed) × (g ≡ h)))

-- ---- calls that read it

-- the client's pending bytes are copied, as many as fit, and all are counted; there are at most as many as in the
-- longest frame
pub record Owes (key : ℕ) (old new : List ℕ) (count : ℕ) (h : HubState as_kept) (code : ℤ) : Type 0 where
  pub owed : MatchOption (clients_in h key) (code ≡ unknown_client) (λ c. (code ≡ ok) × IsCopied c.owed old new count)
  pub short : is_failed h ≡ false → OwesOneFrame h key

-- the bytes of a redraw are copied, as many as fit, and all are counted; if the redraw is too long, no byte is copied
abbrev pub Redrawn : Result (Option (List ℕ)) HubError → List ℕ → List ℕ → ℕ → ℤ → Type 0
Redrawn (Ok (Some text)) old new count code = (code ≡ ok) × IsCopied text old new count
Redrawn (Ok None) old new count code = (code ≡ answer_code TooLong) × (new ≡ old) × (count ≡ 0)
Redrawn (Err e) old new count code = code ≡ refusal_code e

abbrev pub Redraws : ℕ → List ℕ → List ℕ → ℕ → HubState as_kept → ℤ → Type 0
Redraws key old new count h code =
    (answer : Result (Option (List ℕ)) HubError) × joins.Redraws h key answer × Redrawn answer old new count code

-- the number if there is no whole frame, by the client: it has had no frame, or its whole frame is too long
abbrev pub no_whole_code : ClientState → ℤ
no_whole_code c = if is_some c.base then answer_code TooLong else ok

-- the bytes of a client's whole frame are copied, as many as fit, and all are counted; if there is no whole frame, no
-- byte is copied
abbrev pub WholeDrawn : Option ClientState → Result (Option (List ℕ)) HubError → List ℕ → List ℕ → ℕ → ℤ → Type 0
WholeDrawn client (Ok (Some text)) old new count code = (code ≡ ok) × IsCopied text old new count
WholeDrawn client (Ok None) old new count code =
    IsSomeAnd client (λ c. code ≡ no_whole_code c) × (new ≡ old) × (count ≡ 0)
WholeDrawn client (Err e) old new count code = code ≡ refusal_code e

abbrev pub DrawsWhole : ℕ → List ℕ → List ℕ → ℕ → HubState as_kept → ℤ → Type 0
DrawsWhole key old new count h code =
    (answer : Result (Option (List ℕ)) HubError) × joins.DrawsWhole h key answer
    × WholeDrawn (clients_in h key) answer old new count code

-- a cell of a screen is copied, or the place is outside it
abbrev pub ShowsCell : ScreenView → ℕ → ℕ → CCell → ℤ → Type 0
ShowsCell v row col cell code =
    MatchOption (cell_in (visible_row_at v.state.shown row) col) (code ≡ no_cell)
    (λ x. (code ≡ ok) × (cell ≡ cell_of x))

abbrev pub ShowsRow : ScreenView → ℕ → List ℕ → List ℕ → ℕ → ℤ → Type 0
ShowsRow v row old new count code =
    CopiesText (encode_utf8_all (text_between v.state.shown row 0 row v.state.shown.width)) old new count code

abbrev pub ShowsContents : ScreenView → List ℕ → List ℕ → ℕ → ℤ → Type 0
ShowsContents v old new count code =
    CopiesText (newlines_cut (encode_utf8_all (text_lines v.state.shown (length v.state.shown.rows)))) old new count
    code

-- the size, the cursor and the modes of a hub's screen are copied
abbrev pub Looks : CLook → HubState as_kept → ℤ → Type 0
Looks look h code = (code ≡ ok) × (look ≡ screen_look (screen_in h))

abbrev pub HasCell : ℕ → ℕ → CCell → HubState as_kept → ℤ → Type 0
HasCell row col cell h code = ShowsCell (screen_in h) row col cell code

abbrev pub HasRow : ℕ → List ℕ → List ℕ → ℕ → HubState as_kept → ℤ → Type 0
HasRow row old new count h code = ShowsRow (screen_in h) row old new count code

abbrev pub HasContents : List ℕ → List ℕ → ℕ → HubState as_kept → ℤ → Type 0
HasContents old new count h code = ShowsContents (screen_in h) old new count code
