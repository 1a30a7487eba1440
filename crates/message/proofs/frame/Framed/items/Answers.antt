use Rattle.message.specs.FrameLaws.{items-end, count-here}
use Rattle.message.proofs.frame.Framed.items.Goals as goal

pub invariant_of-result : goal.invariant_of-result
invariant_of-result c = rw (c.count.ensures, c.body.ensures.value, ← count-here _ c.args.self.now.whole.fits) (items-end _ c.args.self.now.whole.fits)

pub returns : goal.returns
returns c = rw (c.count.ensures, c.body.ensures.value, ← count-here _ c.args.self.now.whole.fits)
