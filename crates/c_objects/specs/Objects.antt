-- What a call does to the object in a word.
use Rattle.std.specs.Prelude.{◌≡◌, ℤ}
use Rattle.charset_filter.specs.declared.lines.PieceFilter.{PieceFilter}
use Rattle.recordings.specs.declared.recording.Reading.{Reading}
use Rattle.termrelay.specs.Hub.{HubState, as_kept}
use Rattle.c_objects.specs.Codes.{other_kind}
use Rattle.c_objects.specs.Views.{ViewState}
use Rattle.c_objects.specs.declared.object.Marked.{Marked}
use Rattle.c_objects.specs.declared.object.Object.{Object}
use Rattle.c_objects.specs.declared.object.Object.TheVariants.{Hub, View, Screen, Recording, Filter}

-- ---- calls that change it

-- `step` says how the call changes a hub; an object of another kind is refused
abbrev pub HubDoes : (HubState as_kept → ℤ → HubState as_kept → Type 0) → Object → ℤ → Object → Type 0
HubDoes step (Hub h) code y = (g : HubState as_kept) × step h code g × (y ≡ Hub g)
HubDoes step (View v) code y = (code ≡ other_kind) × (y ≡ View v)
HubDoes step (Screen m) code y = (code ≡ other_kind) × (y ≡ Screen m)
HubDoes step (Recording r) code y = (code ≡ other_kind) × (y ≡ Recording r)
HubDoes step (Filter f) code y = (code ≡ other_kind) × (y ≡ Filter f)

-- `step` says how the call changes a view; an object of another kind is refused
abbrev pub ViewDoes : (ViewState → ℤ → ViewState → Type 0) → Object → ℤ → Object → Type 0
ViewDoes step (Hub h) code y = (code ≡ other_kind) × (y ≡ Hub h)
ViewDoes step (View v) code y = (w : ViewState) × step v code w × (y ≡ View w)
ViewDoes step (Screen m) code y = (code ≡ other_kind) × (y ≡ Screen m)
ViewDoes step (Recording r) code y = (code ≡ other_kind) × (y ≡ Recording r)
ViewDoes step (Filter f) code y = (code ≡ other_kind) × (y ≡ Filter f)

-- `step` says how the call changes a screen; an object of another kind is refused
abbrev pub ScreenDoes : (Marked → ℤ → Marked → Type 0) → Object → ℤ → Object → Type 0
ScreenDoes step (Hub h) code y = (code ≡ other_kind) × (y ≡ Hub h)
ScreenDoes step (View v) code y = (code ≡ other_kind) × (y ≡ View v)
ScreenDoes step (Screen m) code y = (n : Marked) × step m code n × (y ≡ Screen n)
ScreenDoes step (Recording r) code y = (code ≡ other_kind) × (y ≡ Recording r)
ScreenDoes step (Filter f) code y = (code ≡ other_kind) × (y ≡ Filter f)

-- `step` says how the call changes a filter; an object of another kind is refused
abbrev pub FilterDoes : (PieceFilter → ℤ → PieceFilter → Type 0) → Object → ℤ → Object → Type 0
FilterDoes step (Hub h) code y = (code ≡ other_kind) × (y ≡ Hub h)
FilterDoes step (View v) code y = (code ≡ other_kind) × (y ≡ View v)
FilterDoes step (Screen m) code y = (code ≡ other_kind) × (y ≡ Screen m)
FilterDoes step (Recording r) code y = (code ≡ other_kind) × (y ≡ Recording r)
FilterDoes step (Filter f) code y = (g : PieceFilter) × step f code g × (y ≡ Filter g)

-- ---- calls that read it

-- the call reads this from a hub; an object of another kind is refused
abbrev pub HubSays : (HubState as_kept → ℤ → Type 0) → Object → ℤ → Type 0
HubSays says (Hub h) code = says h code
HubSays says (View v) code = code ≡ other_kind
HubSays says (Screen m) code = code ≡ other_kind
HubSays says (Recording r) code = code ≡ other_kind
HubSays says (Filter f) code = code ≡ other_kind

-- the call reads this from a view; an object of another kind is refused
abbrev pub ViewSays : (ViewState → ℤ → Type 0) → Object → ℤ → Type 0
ViewSays says (Hub h) code = code ≡ other_kind
ViewSays says (View v) code = says v code
ViewSays says (Screen m) code = code ≡ other_kind
ViewSays says (Recording r) code = code ≡ other_kind
ViewSays says (Filter f) code = code ≡ other_kind

-- the call reads this from a screen; an object of another kind is refused
abbrev pub ScreenSays : (Marked → ℤ → Type 0) → Object → ℤ → Type 0
ScreenSays says (Hub h) code = code ≡ other_kind
ScreenSays says (View v) code = code ≡ other_kind
ScreenSays says (Screen m) code = says m code
ScreenSays says (Recording r) code = code ≡ other_kind
ScreenSays says (Filter f) code = code ≡ other_kind

-- the call reads this from a recording; an object of another kind is refused
abbrev pub RecordingSays : (Reading → ℤ → Type 0) → Object → ℤ → Type 0
RecordingSays says (Hub h) code = code ≡ other_kind
RecordingSays says (View v) code = code ≡ other_kind
RecordingSays says (Screen m) code = code ≡ other_kind
RecordingSays says (Recording r) code = says r code
RecordingSays says (Filter f) code = code ≡ other_kind

-- the call reads this from a filter; an object of another kind is refused
abbrev pub FilterSays : (PieceFilter → ℤ → Type 0) → Object → ℤ → Type 0
FilterSays says (Hub h) code = code ≡ other_kind
FilterSays says (View v) code = code ≡ other_kind
FilterSays says (Screen m) code = code ≡ other_kind
FilterSays says (Recording r) code = code ≡ other_kind
FilterSays says (Filter f) code = says f code
