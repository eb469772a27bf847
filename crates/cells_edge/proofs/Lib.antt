mod Filled
mod Queues
