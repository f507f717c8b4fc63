-- The words by which commands begin.
pub data CommandWord : Type 0 where
  Mkdir : CommandWord
  Rmdir : CommandWord
  Remove : CommandWord
  Rename : CommandWord
  List : CommandWord
  Put : CommandWord
  Get : CommandWord
  Recover : CommandWord
  Move : CommandWord
  Heal : CommandWord
  Rebalance : CommandWord
  Evacuate : CommandWord
  Sweep : CommandWord
  Stop : CommandWord
  Start : CommandWord
  Wipe : CommandWord
  Hibernate : CommandWord
  Upgrade : CommandWord
  Tick : CommandWord
  Drop : CommandWord
  Checkpoint : CommandWord
  Restart : CommandWord
