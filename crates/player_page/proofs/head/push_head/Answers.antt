use Rattle.std.proofs.Common.{◌≡◌, ◌++◌, OnOk, min, subst}
use Rattle.picture_page.proofs.PageLemmas.{if_added, if_joined}
use Rattle.picture_page.specs.declared.tag.Tag.TheVariants as tag
use Rattle.player_page.specs.Heads.{idle_bytes, seconds_bytes, titles_bytes}
use Rattle.player_page.proofs.head.push_head.Goals as goal

pub returns-clause-adds : goal.returns-clause-adds
returns-clause-adds c =
    if_added _ _ _ _ _ c.in_ok-push_titles.ensures.adds
    (if_added _ _ _ _ _ c.in_ok-push_seconds.ensures.adds
    (if_added _ _ _ _ _ c.in_ok-push_idle.ensures.adds
    (if_added _ _ _ _ _ c.in_ok-push_seconds-2.ensures.adds c.push_seconds-3.ensures.adds)))

pub returns-clause-bytes : goal.returns-clause-bytes
returns-clause-bytes c =
    let play = c.args.play.now in
    if_joined _ c.args.page.now c.push_titles.new.page _ (titles_bytes c.args.look.now) _
    c.in_ok-push_titles.ensures.bytes
    (if_joined _ c.push_titles.new.page c.push_seconds.new.page _ (seconds_bytes tag.PlayerLength play.length) _
    c.in_ok-push_seconds.ensures.bytes
    (if_joined _ c.push_seconds.new.page c.push_idle.new.page _ (idle_bytes play.pace.idle) _
    c.in_ok-push_idle.ensures.bytes
    (if_joined _ c.push_idle.new.page c.push_seconds-2.new.page _ (seconds_bytes tag.PlayerSpeed play.pace.speed)
    (seconds_bytes tag.PlayerPoster (min play.poster play.length)) c.in_ok-push_seconds-2.ensures.bytes
    (subst (λ m. OnOk c.push_seconds-3.result (c.push_seconds-3.new.page ≡ c.push_seconds-2.new.page
    ++ seconds_bytes tag.PlayerPoster m)) c.min.ensures c.push_seconds-3.ensures.bytes))))
