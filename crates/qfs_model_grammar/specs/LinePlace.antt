-- Behind which line the next one stands.
pub data LinePlace : Type 0 where
  Start : LinePlace
  Qfs : LinePlace
  Layout : LinePlace
  Servers : LinePlace
  Term : LinePlace
  Audit : LinePlace
  Phase : LinePlace
  -- an actor's line, or a command of that actor
  Actor : LinePlace
  Order : LinePlace
