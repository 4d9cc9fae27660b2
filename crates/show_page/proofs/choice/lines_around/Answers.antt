use Rattle.show_page.proofs.choice.lines_around.Goals as goal

pub returns : goal.returns
returns c =
    rw (← c.in_ok-pages.ensures, ← c.deref.ensures.value) c.lines_on_pages.ensures
