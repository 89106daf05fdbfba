use Rattle.std.proofs.Common.{◌≡◌, ◌∷◌, [], ◌++◌, ◌/◌, ◌%◌, arith, subst, OnOk}
use Rattle.picture_page.specs.Page.{digit_byte}
use Rattle.picture_page.proofs.PageLemmas.{if_added, if_joined}
use Rattle.picture_page.proofs.page.Page.hexadecimal.Goals as goal

pub returns-clause-adds : goal.returns-clause-adds
returns-clause-adds c = if_added _ _ _ _ _ c.in_ok-digit.ensures.adds c.digit-2.ensures.adds

pub returns-clause-bytes : goal.returns-clause-bytes
returns-clause-bytes c =
    let v = c.args.value in
    let high : v / 16 % 16 ≡ v / 16 = omega arith in
    let low : v % 16 % 16 ≡ v % 16 = omega arith in
    let both = if_joined _ _ _ _ (digit_byte (v / 16 % 16) ∷ []) (digit_byte (v % 16 % 16) ∷ [])
    c.in_ok-digit.ensures.bytes c.digit-2.ensures.bytes in
    subst (λ d. OnOk c.digit-2.result (c.digit-2.new.self ≡ c.args.self.now ++ digit_byte d ∷ digit_byte (v % 16) ∷ []))
    high
    (subst (λ d. OnOk c.digit-2.result (c.digit-2.new.self ≡ c.args.self.now ++ digit_byte (v / 16 % 16)
    ∷ digit_byte d ∷ [])) low both)
