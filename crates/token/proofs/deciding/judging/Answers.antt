use Rattle.token.proofs.deciding.judging.Goals as goal

pub offset_after-offset-requires : goal.offset_after-offset-requires
offset_after-offset-requires c = record { sound = c.requires.sound; near = rw c.in-Accepted.is at c.requires.if_accepted }

pub accepted-requires : goal.accepted-requires
accepted-requires c = record { sound = c.requires.sound; near = rw c.in-Accepted.is at c.requires.if_accepted }
