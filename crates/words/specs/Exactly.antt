-- What is said exactly if something holds.

abbrev pub Exactly : Type 0 → Type 0 → Type 0
Exactly said holds = (said → holds) × (holds → said)
