-- What a call does to an object, from what it does to the hub, the screen or the filter in it.
use Rattle.std.proofs.Common.{◌≡◌, ℤ, refl, ◌<◌, w32, to_z, of_z}
use Rattle.std.proofs.Math.Facts.{to_z-of_z}
use lib.Signed.{mag}
use Rattle.termrelay.specs.Hub.{HubState, as_kept}
use Rattle.charset_filter.specs.declared.lines.PieceFilter.{PieceFilter}
use Rattle.c_objects.specs.Objects.{HubDoes, ScreenDoes, FilterDoes}
use Rattle.c_objects.specs.declared.object.Marked.{Marked}
use Rattle.c_objects.specs.declared.object.Object.{Object}
use Rattle.c_objects.specs.declared.object.Object.TheVariants.{Hub, Screen, Filter}

pub hub_did : (step : HubState as_kept → ℤ → HubState as_kept → Type 0) (x : Object) (h g : HubState as_kept) (code : ℤ)
    → mag code < 2147483648 → x ≡ Hub h → step h code g → HubDoes step x (to_z w32 (of_z w32 code)) (Hub g)
hub_did step x h g code fits is did = rw (to_z-of_z {w = w32} {z = code} (record { sfits = fits }))
    (rw is (g, did, refl))

pub screen_did : (step : Marked → ℤ → Marked → Type 0) (x : Object) (m n : Marked) (code : ℤ) → mag code < 2147483648
    → x ≡ Screen m → step m code n → ScreenDoes step x (to_z w32 (of_z w32 code)) (Screen n)
screen_did step x m n code fits is did =
    rw (to_z-of_z {w = w32} {z = code} (record { sfits = fits })) (rw is (n, did, refl))

pub filter_did : (step : PieceFilter → ℤ → PieceFilter → Type 0) (x : Object) (f g : PieceFilter) (code : ℤ)
    → mag code < 2147483648 → x ≡ Filter f → step f code g → FilterDoes step x (to_z w32 (of_z w32 code)) (Filter g)
filter_did step x f g code fits is did =
    rw (to_z-of_z {w = w32} {z = code} (record { sfits = fits })) (rw is (g, did, refl))

-- a number of 32 bits is kept as it is
pub kept_code : (P : ℤ → Type 0) (code : ℤ) → mag code < 2147483648 → P code → P (to_z w32 (of_z w32 code))
kept_code P code fits is = rw (to_z-of_z {w = w32} {z = code} (record { sfits = fits })) is
