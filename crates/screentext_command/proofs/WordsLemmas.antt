-- How the arguments are described to `clap`.
use Rattle.std.proofs.Common.{◌≡◌, ◌∙◌, ap, ap₂, Bool, false, ℕ, nat_lt, List, inl, inr, true, refl, sym, []}
use Rattle.std.proofs.Common.{◌∷◌, subst, Ok, Err, Result, IfOk, IfSome, Option, Some, None, is_some}
use Rattle.std.proofs.lemmas.Result.{IfOk-weaker}
use Rattle.clap.specs.Words.{AddsArg, App, IsAmong, Kinds, Row, Rule, Text, app_of, fault_of, is_simple}
use Rattle.clap.specs.Words.{matches_of}
use Rattle.clap.specs.Words.{is_simple_and_free}
use Rattle.clap.specs.Words.{rule_of, with_rule}
use Rattle.clap.specs.declared.error.ErrorKind.{ErrorKind}
use Rattle.clap.specs.declared.error.ErrorKind.TheVariants.{DisplayHelp, DisplayVersion}
use Rattle.clap.proofs.OnLiterals.{clap_on_literals}
use Rattle.screentext_command.specs.Asked.{AskForText, IsMadeOf, IsMeant, IsRequested, IsToldFor, Says, SaysOrigin}
use Rattle.screentext_command.specs.Asked.{SaysManner, SaysPace, SaysWish}
use Rattle.screentext_command.specs.Asked.{form_meant, manner_of, origin_of, wish_of}
use Rattle.screentext_command.specs.Words.{are_words, is_form, is_invocation_of, is_request, known}
use Rattle.screentext_command.proofs.KindLemmas.{IsSingle}
use Rattle.recorded_screen.specs.declared.films.Pace.{Pace}
use Rattle.screentext_command.specs.declared.help.TheConstants.{HELP, VERSION}
use Rattle.screentext_command.specs.declared.pictures.Pictures.{Pictures}
use Rattle.screentext_command.specs.declared.source.Source.{Source}
use Rattle.screentext_command.specs.declared.words.Invocation.{Invocation}
use Rattle.screentext_command.specs.declared.words.Invocation.TheVariants.{Help, Print, Version}
use Rattle.screentext_command.specs.declared.words.Request.{Request}
use Rattle.clap.specs.declared.Arg.{Arg}
use Rattle.clap.specs.declared.Command.{Command}

-- a command to which one more argument was added
pub added : (old new : Command) (a : Arg) (before : App) (r : Rule) → AddsArg old a new → rule_of a ≡ r → a.global
    ≡ false
    → app_of old ≡ before → app_of new ≡ with_rule before r
added old new a before r adds is local was = adds.shape local ∙ ap₂ with_rule was is

pub known_is_simple : is_simple known ≡ true
unfolding clap_on_literals
known_is_simple = refl

pub known_is_free : is_simple_and_free known ≡ true
unfolding clap_on_literals
known_is_free = refl

-- arguments that `clap` accepts, by their values
pub taken : (kinds : Kinds) (rows reported : List Row) → kinds ≡ [] → reported ≡ rows → are_words reported
    ≡ is_invocation_of kinds rows
taken kinds rows reported none same = ap are_words same ∙ ap (λ ks. is_invocation_of ks rows) (sym none)

-- arguments that it doesn't accept, by the kind of its error
pub not_taken : (k : ErrorKind) (kinds reported : Kinds) (rows : List Row) → reported ≡ kinds → IsSingle kinds
    → IsAmong k reported
    → is_request k ≡ is_invocation_of kinds rows
not_taken k kinds reported rows same single among = go kinds single (subst (IsAmong k) same among)
  where
    go : (ks : Kinds) → IsSingle ks → IsAmong k ks → is_request k ≡ is_invocation_of ks rows
    go [] s a = absurd a
    go (x ∷ []) s (inl e) = ap is_request e
    go (x ∷ []) s (inr a) = absurd a
    go (x ∷ (y ∷ ys)) s a = absurd s

pub err_passes : {T E : Type 0} (r : Result T E) (e : E) (P : T → Type 0) → r ≡ Err e → IfOk r P
err_passes r e P is = subst (λ q. IfOk q P) (sym is) tt

-- a result that is `Some` where a test says so, by another test that says the same
pub by_same_test : {X E : Type 0} (r : Result (Option X) E) (a b : Bool) → a ≡ b → IfOk r (λ o. is_some o ≡ a)
    → IfOk r (λ o. is_some o ≡ b)
by_same_test r a b e = IfOk-weaker r (λ o. is_some o ≡ a) (λ o. is_some o ≡ b) (λ o is. is ∙ e)

-- the form by the counts of its arguments
pub form_counts : (a b c d p e f g h q : ℕ) → a ≡ e → b ≡ f → c ≡ g → d ≡ h → p ≡ q
    → is_form (nat_lt 0 a) (nat_lt 0 b) (nat_lt 0 c) (nat_lt 0 d) (nat_lt 0 p)
    ≡ is_form (nat_lt 0 e) (nat_lt 0 f) (nat_lt 0 g) (nat_lt 0 h) (nat_lt 0 q)
form_counts a b c d p e f g h q v w x y z =
    ap₂ (λ i j. is_form (nat_lt 0 i) (nat_lt 0 j) (nat_lt 0 c) (nat_lt 0 d) (nat_lt 0 p)) v w
    ∙ (ap₂ (λ i j. is_form (nat_lt 0 e) (nat_lt 0 f) (nat_lt 0 i) (nat_lt 0 j) (nat_lt 0 p)) x y
    ∙ ap (λ i. is_form (nat_lt 0 e) (nat_lt 0 f) (nat_lt 0 g) (nat_lt 0 h) (nat_lt 0 i)) z)

-- what is known of a value that there may be, in three parts
pub some_all : {X : Type 0} {P Q R T : X → Type 0} (o : Option X) → IfSome o P → IfSome o Q → IfSome o R
    → ((x : X) → P x → Q x → R x → T x) → IfSome o T
some_all None p q r f = tt
some_all (Some x) p q r f = f x p q r

pub some_goes : {X : Type 0} {P T : X → Type 0} (o : Option X) → IfSome o P → ((x : X) → P x → T x) → IfSome o T
some_goes None p f = tt
some_goes (Some x) p f = f x p

pub ok_goes : {X E : Type 0} {P T : X → Type 0} (r : Result X E) → IfOk r P → ((x : X) → P x → T x) → IfOk r T
ok_goes (Ok x) p f = f x p
ok_goes (Err e) p f = tt

pub some_both : {X : Type 0} {P Q T : X → Type 0} (o : Option X) → IfSome o P → IfSome o Q
    → ((x : X) → P x → Q x → T x) → IfSome o T
some_both None p q f = tt
some_both (Some x) p q f = f x p q

pub forms_meant : (a b c d p e f g h q : ℕ) → a ≡ e → b ≡ f → c ≡ g → d ≡ h → p ≡ q
    → form_meant (nat_lt 0 a) (nat_lt 0 b) (nat_lt 0 c) (nat_lt 0 d) (nat_lt 0 p)
    ≡ form_meant (nat_lt 0 e) (nat_lt 0 f) (nat_lt 0 g) (nat_lt 0 h) (nat_lt 0 q)
forms_meant a b c d p e f g h q v w x y z =
    ap₂ (λ i j. form_meant (nat_lt 0 i) (nat_lt 0 j) (nat_lt 0 c) (nat_lt 0 d) (nat_lt 0 p)) v w
    ∙ (ap₂ (λ i j. form_meant (nat_lt 0 e) (nat_lt 0 f) (nat_lt 0 i) (nat_lt 0 j) (nat_lt 0 p)) x y
    ∙ ap (λ i. form_meant (nat_lt 0 e) (nat_lt 0 f) (nat_lt 0 g) (nat_lt 0 h) (nat_lt 0 i)) z)

-- a request says what is wished, with what is said of pictures
abbrev pub SaysWishWith : List Row → Request → Type 0
SaysWishWith rows r = (p : Pictures) → SaysManner rows (manner_of p) → SaysWish rows (wish_of r p)

-- what is made of a request, a source and pictures says what they say
pub says_all : (rows : List Row) (request : Option Request) (source : Option Source) (pictures : Option Pictures)
    (i : Invocation) → IfSome request (SaysWishWith rows) → IfSome source (λ s. SaysOrigin rows (origin_of s))
    → IfSome pictures (λ p. SaysManner rows (manner_of p)) → IsMadeOf request source pictures i → Says rows i
says_all rows request source pictures Help first second third made = absurd made
says_all rows request source pictures Version first second third made = absurd made
says_all rows request source pictures (Print r s p) first second third made =
    let wish : SaysWishWith rows r = subst (λ (o : Option Request). IfSome o (SaysWishWith rows)) made.0 first in
    let manner : SaysManner rows (manner_of p) =
    subst (λ (o : Option Pictures). IfSome o (λ q. SaysManner rows (manner_of q))) made.2 third in (
      wish p manner,
      subst (λ (o : Option Source). IfSome o (λ t. SaysOrigin rows (origin_of t))) made.1 second,
    )

-- arguments that are accepted mean what their values say
pub means : (words : List Text) (rows : List Row) (i : Invocation) → fault_of known words ≡ []
    → rows ≡ matches_of known words → Says rows i → IsMeant words i
means words rows Help none same says = absurd says
means words rows Version none same says = absurd says
means words rows (Print r s p) none same says = record {
  taken = none;
  origin = subst (λ (x : List Row). SaysOrigin x (origin_of s)) same says.1;
  wish = subst (λ (x : List Row). SaysWish x (wish_of r p)) same says.0;
}

-- an error of this kind that is the only one
only_kind : (k : ErrorKind) (kinds : Kinds) → IsSingle kinds → IsAmong k kinds → kinds ≡ k ∷ []
only_kind k [] single among = absurd among
only_kind k (x ∷ []) single (inl e) = ap (λ y. y ∷ []) (sym e)
only_kind k (x ∷ []) single (inr a) = absurd a
only_kind k (x ∷ (y ∷ ys)) single among = absurd single

-- arguments that ask for the help or the version mean it
pub requests : (words : List Text) (k : ErrorKind) (i : Invocation) → IsSingle (fault_of known words)
    → IsAmong k (fault_of known words) → IsRequested k i → IsMeant words i
requests words k Help single among is = only_kind k (fault_of known words) single among ∙ ap (λ x. x ∷ []) is
requests words k Version single among is = only_kind k (fault_of known words) single among ∙ ap (λ x. x ∷ []) is
requests words k (Print r s p) single among is = absurd is

pub help_told : (words : List Text) → fault_of known words ≡ DisplayHelp ∷ [] → AskForText words HELP.now
help_told words is = subst (λ (ks : Kinds). IsToldFor ks HELP.now) (sym is) refl

pub version_told : (words : List Text) → fault_of known words ≡ DisplayVersion ∷ [] → AskForText words VERSION.now
version_told words is = subst (λ (ks : Kinds). IsToldFor ks VERSION.now) (sym is) refl

-- what holds of a value if there is one holds of the one that there is
pub some_at : {X : Type 0} (o : Option X) (x : X) (P : X → Type 0) → o ≡ Some x → IfSome o P → P x
some_at {X = X} o x P is holds = subst (λ (p : Option X). IfSome p P) is holds

-- a pace that there is
pub pace_said : (rows : List Row) (o : Option Pace) (pace : Pace) → o ≡ Some pace → IfSome o (SaysPace rows)
    → SaysPace rows pace
pace_said rows o pace is says = subst (λ (p : Option Pace). IfSome p (SaysPace rows)) is says
