use Rattle.readback_panels.proofs.reading.Reading.stand_in.Goals as goal

pub returns-then-at-place : goal.returns-then-at-place
returns-then-at-place c = c.instead_of.ensures c.args.self.now.draft c.requires
