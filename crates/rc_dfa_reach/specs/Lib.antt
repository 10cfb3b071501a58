pub mod RunReach
