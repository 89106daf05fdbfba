-- A picture that is put into a frame.
use Rattle.std.proofs.Common.{◌≡◌, ◌++◌, ◌*◌, ◌∙◌, ℕ, List, [], Bool, true, false, ap, ap₂, codes, refl, Result, OnOk}
use Rattle.std.proofs.Common.{Global, Option, Some, String, sym}
use Rattle.std.specs.Option.{option_map, option_map_or}
use Rattle.std.specs.Prelude.{if◌then◌else◌, string_bytes}
use Rattle.std.proofs.lemmas.Result.{on_ok_weaker}
use Rattle.picture_page.specs.Page.{Adds, Shows}
use Rattle.picture_page.specs.Seen.{Draws, ends_outside, seen, seen_from}
use Rattle.picture_page.specs.Tags.{tag_bytes}
use Rattle.picture_page.specs.declared.tag.Tag.TheVariants.{SvgFoot}
use Rattle.picture_page.proofs.PageLemmas.{after_markup, before_markup}
use Rattle.picture_page.proofs.SeenLemmas.{draws_after, draws_both, draws_tag}
use Rattle.row_pictures.specs.Frames.{FrameView, around, around_seen, bar_bytes, clip_bytes, edge_bytes, frame_head}
use Rattle.row_pictures.specs.Frames.{frame_said, framed, framed_height, framed_seen, framed_width, head_bytes}
use Rattle.row_pictures.specs.Frames.{is_bare, window_bar, window_clip, window_edge}
use Rattle.row_pictures.specs.declared.frame.Frame.{Frame}
use Rattle.row_pictures.specs.declared.theme.Theme.{Theme}

-- a page that is appended
pub shows_appended : (old new picture text : List ℕ) → new ≡ old ++ picture → Shows picture text → Adds old new text
shows_appended old new picture text joined shows = record {
  parts = shows.parts;
  joined = joined ∙ ap (λ xs. old ++ xs) shows.joined;
  text_is = shows.text_is;
}

-- what a call may add after a head, a bar, a head, a page, an end and an edge
pub text_around : {T E : Type 0} (r : Result T E) (a b c d e f g h picture : List ℕ) → Adds a b [] → Adds b c []
    → Adds c d [] → e ≡ d ++ picture → Adds e f [] → Adds f g [] → OnOk r (Adds g h [])
    → OnOk r ((text : List ℕ) → Shows picture text → Adds a h text)
text_around r a b c d e f g h picture head bar inner joined foot edge =
    on_ok_weaker r (λ last text shows. after_markup a b h text head (after_markup b c h text bar
    (after_markup c d h text inner (before_markup d e h text (shows_appended d e picture text joined shows)
    (after_markup e f h [] foot (after_markup f g h [] edge last))))))

-- the end of a picture ends a tag that is open, and shows the same, whether a tag is open or not
foot_ends : (o : Bool) → ends_outside o (tag_bytes SvgFoot) ≡ true
foot_ends true = refl
foot_ends false = refl

foot_seen : (o : Bool) → seen_from o (tag_bytes SvgFoot) ≡ codes "\n"
foot_seen true = refl
foot_seen false = refl

-- what is seen of a page that is appended, and of two ends with an edge between them
pub seen_within : {T E : Type 0} (r : Result T E) (d e f g h picture : List ℕ) → e ≡ d ++ picture
    → f ≡ e ++ tag_bytes SvgFoot → Draws f g true true [] → OnOk r (h ≡ g ++ tag_bytes SvgFoot)
    → OnOk r (Draws d h true true (seen picture ++ codes "\n\n"))
seen_within r d e f g h picture joined first edge =
    on_ok_weaker r (λ last. let out = ends_outside true picture in
    draws_both d e h true out true (seen picture) (codes "\n\n")
    (record { more = picture; joined = joined; ends_so = refl; seen_is = refl })
    (draws_both e f h out true true (codes "\n") (codes "\n")
    (draws_tag e f SvgFoot out true (codes "\n") (foot_ends out) (foot_seen out) first)
    (draws_after f g h true true true (codes "\n") edge
    (draws_tag g h SvgFoot true true (codes "\n") refl refl last))))

-- ---- frames that add nothing, and others

pub framed_bare : (f : FrameView) (theme : Theme) (rows cols : ℕ) (picture : List ℕ) → is_bare f ≡ true
    → framed f theme rows cols picture ≡ picture
framed_bare f theme rows cols picture bare =
    ap (λ v. if v then picture else around f theme (cols * 9) (rows * 18) picture) bare

pub framed_around : (f : FrameView) (theme : Theme) (rows cols : ℕ) (picture : List ℕ) → is_bare f ≡ false
    → framed f theme rows cols picture ≡ around f theme (cols * 9) (rows * 18) picture
framed_around f theme rows cols picture bare =
    ap (λ v. if v then picture else around f theme (cols * 9) (rows * 18) picture) bare

pub seen_bare : (f : FrameView) (picture : List ℕ) → is_bare f ≡ true → framed_seen f picture ≡ picture
seen_bare f picture bare = ap (λ v. if v then picture else around_seen f picture) bare

pub seen_around : (f : FrameView) (picture : List ℕ) → is_bare f ≡ false
    → framed_seen f picture ≡ around_seen f picture
seen_around f picture bare = ap (λ v. if v then picture else around_seen f picture) bare

-- ---- parts of a frame

-- a head of that many pixels
pub head_of_size : {T E : Type 0} (r : Result T E) (a b : List ℕ) (f : Frame) (theme : Theme)
    (width height rows cols : ℕ) → width ≡ framed_width (frame_said f) (cols * 9)
    → height ≡ framed_height (frame_said f) (rows * 18)
    → OnOk r (b ≡ a ++ head_bytes (frame_said f) theme width height)
    → OnOk r (b ≡ a ++ frame_head (frame_said f) theme (cols * 9) (rows * 18))
head_of_size r a b f theme width height rows cols width_is height_is =
    on_ok_weaker r (λ (is : b ≡ a ++ head_bytes (frame_said f) theme width height).
    is ∙ ap₂ (λ (w h : ℕ). a ++ head_bytes (frame_said f) theme w h) width_is height_is)

-- what cuts off the corners of a frame that has a title
pub clip_added : {T E : Type 0} (r : Result T E) (a b : List ℕ) (f : Frame) (width height : ℕ) (title : String Global)
    → f.title ≡ Some title → OnOk r (b ≡ a ++ clip_bytes f.font_size width height)
    → OnOk r (b ≡ a ++ window_clip (frame_said f) width height)
clip_added r a b f width height title title_is =
    on_ok_weaker r (λ (is : b ≡ a ++ clip_bytes f.font_size width height).
    is ∙ ap (λ (o : Option (String Global)).
    a ++ option_map_or (λ t. clip_bytes f.font_size width height) (option_map string_bytes o) []) (sym title_is))

-- the edge of a frame that has a title
pub edge_added : {T E : Type 0} (r : Result T E) (a b : List ℕ) (f : Frame) (theme : Theme)
    (width height rows cols : ℕ) (title : String Global) → f.title ≡ Some title
    → width ≡ framed_width (frame_said f) (cols * 9) → height ≡ framed_height (frame_said f) (rows * 18)
    → OnOk r (b ≡ a ++ edge_bytes f.font_size width height theme.fgcolor)
    → OnOk r (b ≡ a ++ window_edge (frame_said f) theme (cols * 9) (rows * 18))
edge_added r a b f theme width height rows cols title title_is width_is height_is =
    let edge : ℕ → ℕ → List ℕ = λ w h. edge_bytes f.font_size w h theme.fgcolor in
    let wide : ℕ = framed_width (frame_said f) (cols * 9) in
    let high : ℕ = framed_height (frame_said f) (rows * 18) in
    on_ok_weaker r (λ (is : b ≡ a ++ edge width height).
    is ∙ ap₂ (λ (w h : ℕ). a ++ edge w h) width_is height_is
    ∙ ap (λ (o : Option (String Global)).
    a ++ option_map_or (λ t. edge wide high) (option_map string_bytes o) []) (sym title_is))

-- a bar of letters of that height
pub bar_of_size : {T E : Type 0} (r : Result T E) (a b : List ℕ) (theme : Theme) (m n width : ℕ) (title : List ℕ)
    → m ≡ n → OnOk r (b ≡ a ++ bar_bytes m theme width title) → OnOk r (b ≡ a ++ bar_bytes n theme width title)
bar_of_size r a b theme m n width title size_is =
    on_ok_weaker r (λ (is : b ≡ a ++ bar_bytes m theme width title).
    is ∙ ap (λ size. a ++ bar_bytes size theme width title) size_is)

-- the bar of a frame that has a title
pub bar_added : {T E : Type 0} (r : Result T E) (a b : List ℕ) (f : Frame) (theme : Theme) (width cols : ℕ)
    (text : List ℕ) (title : String Global) → f.title ≡ Some title → text ≡ string_bytes title
    → width ≡ framed_width (frame_said f) (cols * 9) → OnOk r (b ≡ a ++ bar_bytes f.font_size theme width text)
    → OnOk r (b ≡ a ++ window_bar (frame_said f) theme (cols * 9))
bar_added r a b f theme width cols text title title_is text_is width_is =
    let bar : List ℕ → List ℕ = bar_bytes f.font_size theme (framed_width (frame_said f) (cols * 9)) in
    on_ok_weaker r (λ (is : b ≡ a ++ bar_bytes f.font_size theme width text).
    is ∙ ap₂ (λ (w : ℕ) (t : List ℕ). a ++ bar_bytes f.font_size theme w t) width_is text_is
    ∙ ap (λ (o : Option (String Global)). a ++ option_map_or bar (option_map string_bytes o) []) (sym title_is))
