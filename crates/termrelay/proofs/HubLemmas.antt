-- The records of a hub's clients, and their values in contracts.
use Rattle.std.proofs.Common.{◌≡◌, ℕ, ◌<◌, ◌==◌, List, [], length, Option, Some, None, arith, drop, length-drop, ap}
use Rattle.std.proofs.Common.{◌∙◌}
use Rattle.std.proofs.Common.{refl, subst, false, slice_index_or, if◌then◌else◌, inl, inr}
use Rattle.std.specs.Option.{option_map, IfSome}
use Rattle.std.proofs.lemmas.Bool.{cases_eq, eq-eqb, ne_eqb}
use Rattle.std.proofs.lemmas.List.{get_or_past, get_or-set_same, get_or-set_other}
use Rattle.slab.specs.Slab.{Slab, get, with_value, Updates}
use Rattle.terminal_model.specs.Term.{Size, Shown, blank_shown}
use Rattle.vt100_core.specs.Picture.{grid_size}
use Rattle.screen_model.specs.Call.{ScreenView}
use Rattle.vt100.specs.Parsing.{ParserView}
use Rattle.termrelay.specs.Frame.{IsShortFrame}
use Rattle.termrelay.specs.ClientRecord.{FrameView, RecordView, base_of, client_of, IsBaseOf, IsFrameOf, IsRecordOf}
use Rattle.termrelay.specs.Frames.{FramesView, most_moments, IsLatestOf, IsNumbered, EachLast, AreNumbered}
use Rattle.termrelay.specs.Frames.{KeepsNumbers}
use Rattle.termrelay.specs.Answers.{ClientState}
use Rattle.termrelay.specs.Hub.{HubState, as_kept, Puts, no_clients}
use Rattle.termrelay.specs.HubFields.{EachIsNumbered, IsHub}
use Rattle.termrelay.specs.declared.hub.Hub.TheInside.{Inside}
use Rattle.termrelay.proofs.NumberLemmas.{each-more, each-updated}

-- ---- frames

-- if the size stays the same, frames fit the screen still, and the bound on a frame's length stays the same
frame-still : (now next : ScreenView) (f : FrameView) → grid_size now.state.shown ≡ grid_size next.state.shown
    → IsFrameOf now f → IsFrameOf next f
frame-still now next f same h = record {
  base = record { unscrolled = h.base.unscrolled; size = h.base.size ∙ same };
  brings = h.brings;
  short = subst (λ z. IsShortFrame z f.text) same h.short;
  fits = h.fits;
}

last-still : (now next : ScreenView) (last : Option FrameView) → grid_size now.state.shown ≡ grid_size next.state.shown
    → IfSome last (IsFrameOf now) → IfSome last (IsFrameOf next)
last-still now next None same h = tt
last-still now next (Some f) same h = frame-still now next f same h

pub served-still : (now next : ScreenView) (r : Option RecordView)
    → grid_size now.state.shown ≡ grid_size next.state.shown → IfSome r (IsRecordOf now) → IfSome r (IsRecordOf next)
served-still now next None same h = tt
served-still now next (Some r) same h = record {
  last = last-still now next r.last same h.last;
  short = subst (λ z. IsShortFrame z r.owed) same h.short;
}

-- some of the pending bytes are taken
pub left-served : (now : ScreenView) (r : RecordView) (n : ℕ) → IsRecordOf now r
    → IsRecordOf now (record r { owed = drop n r.owed })
left-served now r n h = record { last = h.last; short = omega (arith, h.short, length-drop n r.owed) }

-- no bytes are pending
pub forked-served : (now : ScreenView) (r : RecordView) → IsRecordOf now r
    → IsRecordOf now (record { owed = []; last = r.last })
forked-served now r h = record { last = h.last; short = omega arith }

-- a frame is pending
pub framed-served : (now : ScreenView) (f : FrameView) → IsFrameOf now f
    → IsRecordOf now (record { owed = f.text; last = Some f })
framed-served now f h = record { last = h; short = h.short }

-- the screen at a client's last frame
pub served-base : (now : ScreenView) (last : Option FrameView) → IfSome last (IsFrameOf now)
    → IfSome (base_of last) (IsBaseOf now)
served-base now None h = tt
served-base now (Some f) h = h.base

pub none-served : (s : Slab RecordView) (now : ScreenView) (key : ℕ) → s.slots ≡ []
    → IfSome (get s key) (IsRecordOf now)
none-served s now key none = rw none tt

-- ---- clients

-- a hub with this parser and these clients
abbrev pub holding : ParserView (Unit {0}) → Slab RecordView → HubState as_kept
holding p s = record { parser = p; clients = s.slots }

-- the client at each key of these records
abbrev pub kept_at : List (Option RecordView) → ℕ → Option ClientState
kept_at rs key = option_map client_of (slice_index_or rs key None)

pub no-clients : (rs : List (Option RecordView)) → rs ≡ [] → kept_at rs ≡ no_clients
no-clients rs none = ap kept_at none

updated-at : (s t : Slab RecordView) (key other : ℕ) (slot : Option RecordView) → Updates s t key slot
    → option_map client_of (get t other)
    ≡ (if other == key then option_map client_of slot else option_map client_of (get s other))
updated-at s t key other slot u = elim (cases_eq other key) [
  | inl same ↦ rw (same, u.changed, eq-eqb key key refl)
  | inr ne ↦ rw (u.others other ne, ne_eqb other key ne)
]

-- from now on this client is at the key
pub updated-client : (p : ParserView (Unit {0})) (s t : Slab RecordView) (key : ℕ) (slot : Option RecordView)
    → Updates s t key slot → Puts (holding p s) key (option_map client_of slot) (holding p t)
updated-client p s t key slot u = (refl, λ i other. updated-at s t key other slot u i)

-- another record is put at a client's key
with-record : (s : Slab RecordView) (key : ℕ) (old new : RecordView) → get s key ≡ Some old
    → Updates s (with_value s key new) key (Some new)
with-record s key old new found =
    let inside : key < length s.slots = grind (arith, get_or_past s.slots key None) in
    record {
      changed = get_or-set_same s.slots key (Some new) None inside;
      others = λ other ne. get_or-set_other s.slots key other (Some new) None ne;
    }

pub put-client : (p : ParserView (Unit {0})) (s : Slab RecordView) (key : ℕ) (old new : RecordView)
    → get s key ≡ Some old → Puts (holding p s) key (Some (client_of new)) (holding p (with_value s key new))
put-client p s key old new found =
    updated-client p s (with_value s key new) key (Some new) (with-record s key old new found)

-- the base of a client that was found
pub found-served : (s : Slab RecordView) (key : ℕ) (r : RecordView) (now : ScreenView) → get s key ≡ Some r
    → ((k : ℕ) → IfSome (get s k) (IsRecordOf now)) → IsRecordOf now r
found-served s key r now found each = rw found at (each key)

pub found-last : (s : Slab RecordView) (key : ℕ) (r : RecordView) (P : FrameView → Type 0) → get s key ≡ Some r
    → EachLast s P → IfSome r.last P
found-last s key r P found each = rw found at (each key)

-- The clients are updated at one key. What is there then fits the screen, and its last frame is one that some client
-- has.
pub hub-updated : (h : Inside) (t : Slab RecordView) (key : ℕ) (slot : Option RecordView) → IsHub h
    → Updates h.clients t key slot
    → (h.parser.screen.failed ≡ false → IfSome slot (IsRecordOf h.parser.screen))
    → ((P : FrameView → Type 0) → EachLast h.clients P → IfSome slot (λ r. IfSome r.last P))
    → IsHub (record h { clients = t })
hub-updated h t key slot i u fits has = record {
  made = i.made;
  served = λ live k. elim (cases_eq k key) [
    | inl same ↦ rw (same, u.changed) (fits live)
    | inr ne ↦ rw (u.others k ne) (i.served live k)
  ];
  latest = i.latest;
  numbered = λ live few.
      let n = i.numbered live few in
      let P = IsNumbered n.shown_at h.frames.moments (grid_size h.parser.screen.state.shown) in
      record {
        shown_at = n.shown_at;
        each = each-updated h.clients t key slot P u (has P n.each) n.each;
        latest = n.latest;
      };
}

-- another record of this screen is put at a client's key, whose last frame is the same
pub hub-put : (h : Inside) (key : ℕ) (old new : RecordView) → IsHub h → get h.clients key ≡ Some old
    → (h.parser.screen.failed ≡ false → IsRecordOf h.parser.screen old → IsRecordOf h.parser.screen new)
    → new.last ≡ old.last → IsHub (record h { clients = with_value h.clients key new })
hub-put h key old new i found keeps same =
    hub-updated h (with_value h.clients key new) key (Some new) i (with-record h.clients key old new found)
    (λ live. keeps live (found-served h.clients key old h.parser.screen found (i.served live)))
    (λ P each. rw same (found-last h.clients key old P found each))

-- there is more room for clients
pub hub-roomier : (h : Inside) (room : ℕ) → IsHub h → IsHub (record h { clients = record (h.clients) { capacity = room } })
hub-roomier h room i = record {
  made = i.made;
  served = i.served;
  latest = i.latest;
  numbered = λ live few.
      let n = i.numbered live few in record { shown_at = n.shown_at; each = n.each; latest = n.latest };
}

-- the screen has changed
pub changed-numbered : (y z : Size) (s : Slab RecordView) (v w : FramesView) → y ≡ z → w ≡ record v { latest = None }
    → EachIsNumbered y s v → EachIsNumbered z s w
changed-numbered y z s v w size is n = rw is (record {
  shown_at = n.shown_at;
  each = subst (λ z. EachLast s (IsNumbered n.shown_at v.moments z)) size n.each;
  latest = tt;
})

-- there are no clients
pub none-numbered : (z : Size) (s : Slab RecordView) (v : FramesView) → s.slots ≡ [] → v.latest ≡ None
    → EachIsNumbered z s v
none-numbered z s v none is = record {
  shown_at = λ n. blank_shown;
  each = λ key. rw none tt;
  latest = rw is tt;
}

-- ---- what is due to a client

-- the frames of all clients, the latest and one that is given are numbered
record IsGoingOn (z : Size) (clients : Slab RecordView) (w : FramesView) (given : Option FrameView) : Type 0 where
  shown_then : ℕ → Shown
  each : EachLast clients (IsNumbered shown_then w.moments z)
  after : AreNumbered shown_then z w given

module _ (h : Inside) (w : FramesView) (key : ℕ) (old : RecordView) (given : Option FrameView) (i : IsHub h)
    (found : get h.clients key ≡ Some old) (latest : IfSome w.latest (IsLatestOf h.parser.screen w.moments))
    (keeps : KeepsNumbers (grid_size h.parser.screen.state.shown) h.frames old.last w given) where
  going-on : h.parser.screen.failed ≡ false → w.moments < most_moments
      → IsGoingOn (grid_size h.parser.screen.state.shown) h.clients w given
  going-on live few =
      let z = grid_size h.parser.screen.state.shown in
      let more = keeps.more few in
      let n = i.numbered live (omega (arith, more, few)) in
      let P = IsNumbered n.shown_at h.frames.moments z in
      let are : AreNumbered n.shown_at z h.frames old.last =
      record { latest = n.latest; last = found-last h.clients key old P found n.each } in
      let g = keeps.goes_on n.shown_at are few in
      record {
        shown_then = g.shown_then;
        each = each-more n.shown_at g.shown_then h.frames.moments w.moments z h.clients more g.agree n.each;
        after = g.after;
      }

  pub hub-asked : IsHub (record h { frames = w })
  hub-asked = record {
    made = i.made;
    served = i.served;
    latest = latest;
    numbered = λ live few.
        let g = going-on live few in
        record { shown_at = g.shown_then; each = g.each; latest = g.after.latest };
  }

pub hub-framed : (h : Inside) (w : FramesView) (key : ℕ) (old : RecordView) (f : FrameView) → IsHub h
    → get h.clients key ≡ Some old → IfSome w.latest (IsLatestOf h.parser.screen w.moments)
    → KeepsNumbers (grid_size h.parser.screen.state.shown) h.frames old.last w (Some f) → IsFrameOf h.parser.screen f
    → IsHub (record h { clients = with_value h.clients key (record { owed = f.text; last = Some f }); frames = w })
hub-framed h w key old f i found latest keeps fits =
    let new : RecordView = record { owed = f.text; last = Some f } in
    let u = with-record h.clients key old new found in
    record {
      made = i.made;
      served = λ live k. elim (cases_eq k key) [
        | inl same ↦ rw (same, u.changed) (framed-served h.parser.screen f fits)
        | inr ne ↦ rw (u.others k ne) (i.served live k)
      ];
      latest = latest;
      numbered = λ live few.
          let g = going-on h w key old (Some f) i found latest keeps live few in
          let z = grid_size h.parser.screen.state.shown in
          record {
            shown_at = g.shown_then;
            each = each-updated h.clients (with_value h.clients key new) key (Some new)
                (IsNumbered g.shown_then w.moments z) u g.after.last g.each;
            latest = g.after.latest;
          };
    }
