-- The double press (document 02, Ask 4): a login or challenge login with the password of the candidate `next` - 1. Found used, it is no error.
use Rattle.std.specs.Prelude.{ℕ, ◌-◌, Bool, false, ◌&&◌, List, [], ltb}
use Rattle.window.specs.declared.Size.TheVariants.{Small}
use Rattle.window.specs.declared.Track.{Track}
use Rattle.window.specs.Window.{candidate}
use Rattle.window.specs.PasswordAt.{PasswordRule, has_by}
use Rattle.desk.specs.Requests.{Request}

module _ (passwords : PasswordRule) (k : Track) (key : List ℕ) (clock : ℕ) where
  -- where there is a step before the first unused one, it is a candidate and has the password
  abbrev pub last_has : List ℕ → List ℕ → Bool
  last_has challenge password =
      ltb 0 k.next.0 && (candidate k clock Small (k.next.0 - 1) && has_by passwords k.scheme key challenge password (k.next.0 - 1))

  abbrev pub pressed : Request → Bool
  pressed (Request.login password) = last_has [] password
  pressed (Request.challenge_login challenge password) = last_has challenge password
  pressed (Request.activate password following) = false
  pressed Request.lock = false
  pressed (Request.unlock password) = false
  pressed Request.suspend = false
  pressed (Request.resume password) = false
  pressed (Request.sync choice password following) = false
  pressed Request.void = false
  pressed Request.query = false
