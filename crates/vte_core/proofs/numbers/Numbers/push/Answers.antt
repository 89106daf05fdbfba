use Rattle.vte_core.proofs.numbers.Numbers.push.Goals as goal

pub returns : goal.returns
returns c = λ m r.
    let (gs, g, a, h) = c.after_byte-self.ensures m r in
    (gs, g, a, record { params = h.params; is_open = h.is_open; many = h.many })
