use Rattle.std.proofs.Common.{arith}
use Rattle.message.specs.FrameLaws.{fits-long}
use Rattle.message.proofs.frame.Framed.mac_fits.Goals as goal

pub mac_fits-requires-clause-in_bounds : goal.mac_fits-requires-clause-in_bounds
mac_fits-requires-clause-in_bounds c = let long = fits-long _ c.args.self.now.whole.fits in omega arith
