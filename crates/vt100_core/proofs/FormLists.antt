-- A grid's lists are those of its picture, whose forms, lengths and cells are known.
use Rattle.std.proofs.Common.{◌≡◌, ℕ, List, ◌++◌, length, length-append, arith, ap, ◌∙◌, sym, subst}
use Rattle.std.specs.Prelude.{unwrap_or}
use Rattle.vt100_forms.specs.declared.attrs.Attrs.{Attrs}
use Rattle.vt100_forms.specs.Attrs.{IsProper, HasByteColors, default_attrs}
use Rattle.vt100_forms.specs.Form.{Form, bytes_of}
use Rattle.terminal_model.specs.FormText.{AreForms, AreSentForms}
use Rattle.terminal_model.specs.Term.{Size, Shown, IsShown}
use Rattle.row_drawing.specs.Writer.{Drawn}
use Rattle.screen_drawing.specs.Laws as writers
use Rattle.screen_drawing.specs.Screen as picture
use Rattle.screen_drawing.specs.Laws.{IsKnown}
use Rattle.screen_drawing.specs.Length.{IsWithin}
use Rattle.screen_drawing.specs.Local.{IsLocalList}
use Rattle.screen_drawing.proofs.LocalScreens.{grid-local}
use Rattle.screen_drawing.proofs.SmallScreens.{lists-sent, lists-forms}
use Rattle.vt100_core.specs.Grid.{GridView}
use Rattle.vt100_core.specs.Picture.{grid_size, Extras}
use Rattle.vt100_core.specs.Writers.{drawn_on, contents_formatted, differing}
use Rattle.vt100_core.specs.WriterLaws.{IsUnscrolledGrid, IsDrawableGrid, picture_of}
use Rattle.vt100_core.specs.FormLists.{HasNo, IsTrueOfLists, EachListIsSent, EachListIsOfForms, IsShortGrowth}
use Rattle.vt100_core.specs.FormLists.{AppendsLocal}
use Rattle.vt100_core.proofs.ShortLists.{small-grid}
use Rattle.vt100_core.proofs.PictureWriters.{plain_extras, shown-grid, lines-cells, contents-is, redrawn-of_picture}
use Rattle.vt100_core.proofs.PictureWriters.{differing-of_pictures, grid-drawable}

known-grid : (g : GridView) → IsUnscrolledGrid g → HasNo 0xFFFD g → IsKnown (drawn_on g)
known-grid g h clean = record { cells = λ r k. lines-cells g r k h.grid; known = clean }

-- besides the earlier grid: what the terminal draws with
with_attrs : Attrs → Extras
with_attrs a = record plain_extras { attrs = a }

contents-of : (Q : List Form → Type 0) (g : GridView) → IsUnscrolledGrid g
    → Q (picture.grid_contents_formatted (grid_size g) (drawn_on g)) → Q (contents_formatted g)
contents-of Q g h q = subst Q (sym (contents-is g (redrawn-of_picture g plain_extras h))) q

difference-of : (Q : List Form → Type 0) (g old : GridView) (a : Attrs) → IsUnscrolledGrid g → IsUnscrolledGrid old
    → grid_size old ≡ grid_size g
    → Q (picture.grid_difference (grid_size g) (picture_of old (with_attrs a)) (drawn_on g)).forms
    → Q (differing g old a).forms
unfolding with_attrs
difference-of Q g old a h o e q =
    subst (λ (d : Drawn). Q d.forms) (sym (differing-of_pictures g old plain_extras (with_attrs a) h o e)) q

-- what is true of the lists of pictures is true of those of grids
of-pictures : (Q : List Form → Type 0) (g : GridView) → IsUnscrolledGrid g
    → ((old : Shown) → HasByteColors old.attrs
    → writers.IsTrueOfLists Q HasByteColors (grid_size g) old (drawn_on g)) → IsTrueOfLists Q g
unfolding with_attrs
of-pictures Q g h q = record {
  contents = contents-of Q g h (q (drawn_on g) (tt, tt)).grid_formatted;
  difference = λ old a o e k. difference-of Q g old a h o e (q (picture_of old (with_attrs a)) k).grid_diff;
  cursor = λ p a k. (q (drawn_on g) (tt, tt)).cursor p (unwrap_or a default_attrs) k;
}

pub grid-sent : EachListIsSent
grid-sent g h colors clean =
    of-pictures AreSentForms g h
    (λ old k. lists-sent (grid_size g) old (drawn_on g) k (small-grid g h.grid colors) (known-grid g h clean))

pub grid-forms : EachListIsOfForms
grid-forms g h colors clean plain =
    of-pictures AreForms g h
    (λ old k. lists-forms (grid_size g) old (drawn_on g) k (small-grid g h.grid colors) (known-grid g h clean) plain)

-- ---- what is appended

pub grown-short : (g : GridView) (fs : List Form) (s t : List ℕ) → IsWithin (grid_size g) 256 fs → t ≡ s ++ bytes_of fs
    → IsShortGrowth g s t
grown-short g fs s t h is = omega (arith, h, ap length is, length-append s (bytes_of fs))

-- which cells a difference touches
pub appends-local : (g old : GridView) (a : Attrs) (s t : List ℕ) → IsDrawableGrid g → IsUnscrolledGrid old
    → grid_size old ≡ grid_size g → IsProper a → t ≡ s ++ bytes_of (differing g old a).forms
    → AppendsLocal (differing g old a).forms g old a s t
appends-local g old a s t h o e proper is = record {
  appended = is;
  touches = λ x same.
      let z = grid_size g in
      let made : differing g old a ≡ picture.grid_difference z (picture_of old x) (drawn_on g) =
      ap (λ (b : Attrs). differing g old b) (sym same) ∙ differing-of_pictures g old plain_extras x h.shown o e in
      subst (λ (d : Drawn). IsLocalList z (picture_of old x) (drawn_on g) d.forms) (sym made)
      (grid-local z (picture_of old x) (drawn_on g)
      (subst (λ (y : Size). IsShown y (picture_of old x)) e (shown-grid old x o))
      (subst IsProper (sym same) proper) (grid-drawable g plain_extras h));
}
